use Rattle.kalah_solve.proofs.tests.plain.+value_of_move.Given as goal

abbrev pub decreases-value_of_move : goal.decreases-value_of_move
decreases-value_of_move l = l.most
