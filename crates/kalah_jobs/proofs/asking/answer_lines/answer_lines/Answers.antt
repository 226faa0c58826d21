use Rattle.std.proofs.Common.{rules}
use Rattle.kalah_jobs.proofs.AskingLemmas.{of_reader}
use Rattle.kalah_jobs.proofs.asking.answer_lines.answer_lines.Goals as goal

pub returns : goal.returns
returns g c = of_reader (search rules) (search rules) c.answer_each.ensures.lines
