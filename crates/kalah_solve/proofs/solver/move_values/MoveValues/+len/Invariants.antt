use Rattle.std.proofs.Common.{length}
use Rattle.kalah_solve.proofs.solver.move_values.MoveValues.+len.Given as goal

abbrev pub decreases-len : goal.decreases-len
decreases-len l = length l.self.now
