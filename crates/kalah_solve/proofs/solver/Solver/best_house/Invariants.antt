use Rattle.kalah_solve.proofs.SolverLemmas.{FallShort}
use Rattle.kalah_solve.proofs.solver.Solver.best_house.Given as goal

abbrev pub invariant-loop-i : goal.invariant-loop-i
invariant-loop-i g l = FallShort l.houses l.i
