use Rattle.kalah_jobs.proofs.LineLemmas.{only_the_suffix_names_the_rule}
use Rattle.kalah_jobs.proofs.line.laws.only_the_suffix_names_the_rule.Goals as goal

pub returns : goal.returns
returns c = only_the_suffix_names_the_rule
