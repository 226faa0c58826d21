use Rattle.std.proofs.{Common.{arith}, lemmas.Grind.{common_steps}}
use Rattle.kalah_jobs.proofs.FileLinesLemmas.{line_numbers}
use Rattle.kalah_jobs.proofs.files.file_lines.count_lines.Goals as goal

pub returns-in_default : goal.returns-in_default
returns-in_default c = grind (arith, common_steps, line_numbers)

pub loop-rest-init : goal.loop-rest-init
loop-rest-init c = grind (arith, common_steps, line_numbers)

pub loop-rest-preserved : goal.loop-rest-preserved
loop-rest-preserved c = grind (arith, common_steps, line_numbers)

pub returns : goal.returns
returns c = grind (arith, common_steps, line_numbers)
