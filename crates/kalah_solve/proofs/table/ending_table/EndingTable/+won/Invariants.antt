-- Each call of the four functions is nearer to the end of the game, or one step on in their order.
use Rattle.std.proofs.Common.{◌+◌, ◌*◌}
use Rattle.kalah_rules.specs.{Position.{storeless}, Measure.{moves_left}}
use Rattle.kalah_solve.proofs.{EndingLemmas.{IsMostOutside}, HouseSetLemmas.{AreMovable}}
use Rattle.kalah_solve.proofs.table.ending_table.EndingTable.+won.Given as goal

abbrev pub decreases-won : goal.decreases-won
decreases-won g l = 4 * moves_left (storeless l.houses) + 3

abbrev pub decreases-won_by_moves : goal.decreases-won_by_moves
decreases-won_by_moves g l = 4 * moves_left (storeless l.houses) + 2

abbrev pub decreases-most_won : goal.decreases-most_won
decreases-most_won g l = 4 * moves_left (storeless l.houses.now) + 1

abbrev pub decreases-move_wins : goal.decreases-move_wins
decreases-move_wins g l = 4 * moves_left (storeless l.houses.now)

abbrev pub invariant-most_won-loop-house : goal.invariant-most_won-loop-house
invariant-most_won-loop-house g l = record {
  movable : AreMovable l.houses l.untried;
  most_is : IsMostOutside l.houses l.untried l.most;
}

abbrev pub decreases-most_won-loop-house : goal.decreases-most_won-loop-house
decreases-most_won-loop-house g l = l.untried
