use Rattle.kalah_run.proofs.DeskLemmas.{counts_what_it_deals}
use Rattle.kalah_run.proofs.laws.desk_is_lawful.Goals as goal

pub returns : goal.returns
returns c plan state kept = counts_what_it_deals kept
