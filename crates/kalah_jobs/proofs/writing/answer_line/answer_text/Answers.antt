use Rattle.std.proofs.{Common.{arith}, lemmas.Grind.{common_steps}}
use Rattle.kalah_jobs.proofs.writing.answer_line.answer_text.Goals as goal

pub returns : goal.returns
returns c = grind (arith, common_steps)
