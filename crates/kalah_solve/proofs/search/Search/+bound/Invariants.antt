-- Each call has fewer moves left or a lower number, and each round of a loop has fewer moves to try.
use Rattle.kalah_rules.specs.{Position.{storeless}, Measure.{moves_left}}
use Rattle.std.proofs.Common.{sum}
use Rattle.kalah_solve.proofs.{WorthLemmas.{moves_after}, SearchLemmas.{measure, rank_of_play, rank_of_moves, rank_of_search, rank_of_bound, rank_of_step, AreTriedIntoStore, ArePlayed, AreUntried}}
use Rattle.kalah_solve.proofs.search.Search.+bound.Given as goal

abbrev pub decreases-bound : goal.decreases-bound
decreases-bound g l = measure (moves_left (storeless l.houses)) rank_of_bound

abbrev pub decreases-bound_by_search : goal.decreases-bound_by_search
decreases-bound_by_search g l = measure (moves_left (storeless l.houses.now)) rank_of_search

abbrev pub decreases-bound_by_moves : goal.decreases-bound_by_moves
decreases-bound_by_moves g l = measure (moves_left (storeless l.houses.now)) rank_of_moves

abbrev pub decreases-bound_into_store : goal.decreases-bound_into_store
decreases-bound_into_store g l = measure (moves_left (storeless l.houses.now)) rank_of_play

abbrev pub decreases-try_remaining : goal.decreases-try_remaining
decreases-try_remaining g l = measure (moves_left (storeless l.houses.now)) rank_of_play

abbrev pub decreases-bound_step : goal.decreases-bound_step
decreases-bound_step g l = measure (moves_after l.step) rank_of_step

abbrev pub invariant-bound_into_store-loop-house : goal.invariant-bound_into_store-loop-house
invariant-bound_into_store-loop-house g l = AreTriedIntoStore l.houses l.beta l.most l.untried

abbrev pub decreases-bound_into_store-loop-house : goal.decreases-bound_into_store-loop-house
decreases-bound_into_store-loop-house g l = l.untried

abbrev pub invariant-try_remaining-loop-house : goal.invariant-try_remaining-loop-house
invariant-try_remaining-loop-house g l = ArePlayed l.houses l.beta l.most l.untried l.waiting.priorities l.waiting.turns

abbrev pub decreases-try_remaining-loop-house : goal.decreases-try_remaining-loop-house
decreases-try_remaining-loop-house g l = l.untried

abbrev pub invariant-bound_by_moves-loop-next : goal.invariant-bound_by_moves-loop-next
invariant-bound_by_moves-loop-next g l = AreUntried l.houses l.beta l.most l.waiting.priorities l.waiting.turns

abbrev pub decreases-bound_by_moves-loop-next : goal.decreases-bound_by_moves-loop-next
decreases-bound_by_moves-loop-next g l = sum l.waiting.priorities
