use Rattle.kalah_solve.proofs.SolverLemmas.{best_moves_attain}
use Rattle.kalah_solve.proofs.solver.laws.best_moves_attain_worth.Goals as goal

pub returns : goal.returns
returns c = best_moves_attain
