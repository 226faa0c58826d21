use Rattle.kalah_jobs.proofs.LineTextLemmas.{every_text_is_read_back}
use Rattle.kalah_jobs.proofs.line.laws.every_text_is_read_back.Goals as goal

pub returns : goal.returns
returns c = every_text_is_read_back
