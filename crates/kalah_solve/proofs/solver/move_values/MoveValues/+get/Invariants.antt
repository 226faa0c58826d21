use Rattle.kalah_solve.proofs.solver.move_values.MoveValues.+get.Given as goal

abbrev pub decreases-get : goal.decreases-get
decreases-get l = l.i
