use Rattle.std.proofs.{lemmas.Grind.{common_steps}, Common.{arith}}
use Rattle.kalah_cli.proofs.system.read_files.read_files.Goals as goal

pub loop-name-preserved : goal.loop-name-preserved
loop-name-preserved g c = grind (arith, common_steps)

pub returns-clause-files : goal.returns-clause-files
returns-clause-files g c = grind (arith, common_steps)
