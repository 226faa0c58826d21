use Rattle.kalah_solve.proofs.SolverLemmas.{best_house_is_lowest}
use Rattle.kalah_solve.proofs.solver.laws.best_house_is_lowest.Goals as goal

pub returns : goal.returns
returns c = best_house_is_lowest
