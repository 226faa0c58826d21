use Rattle.std.proofs.{Common.{arith}, lemmas.Grind.{common_steps}}
use Rattle.kalah_solve.proofs.bounds.seed_bounds.won_of.Goals as goal

pub returns-else-number-le0 : goal.returns-else-number-le0
returns-else-number-le0 c = grind (arith, common_steps)

pub returns-then-number-le0 : goal.returns-then-number-le0
returns-then-number-le0 c = grind (arith, common_steps)
