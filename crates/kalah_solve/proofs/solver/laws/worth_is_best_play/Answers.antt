use Rattle.kalah_solve.proofs.SolverLemmas.{worth_is_best_play, best_play_is_one, best_house_is_best_play, best_play_against_strategies}
use Rattle.kalah_solve.proofs.solver.laws.worth_is_best_play.Goals as goal

pub returns : goal.returns
returns c =
    record {
      worth = worth_is_best_play;
      one = best_play_is_one;
      house = best_house_is_best_play;
      strategies = best_play_against_strategies;
    }
