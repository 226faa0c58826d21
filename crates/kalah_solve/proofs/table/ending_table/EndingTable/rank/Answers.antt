-- Each step that passes two cells of the joined rows adds what they give to the rank, so that all is added once no cell is left.
use Rattle.std.proofs.{Common.{arith, List, slice_index, ◌++◌, ◌+◌, ◌-◌, ◌<◌, ◌≤◌, ◌*◌, ◌%◌, ◌/◌, ◌≡◌, ℕ, length, length-append, sum}, lemmas.List.Sums.{sum_by-append}}
use Rattle.kalah_rules.specs.Position.{HousesState, AreWithinLimits}
use Rattle.kalah_solve.specs.{ArePairs, IsEnding, most_ending_seeds, declared.table.ending_table.TheConstants.{CELLS_OF_PAIR, COUNTS, PAIRS}}
use Rattle.kalah_solve.proofs.{RankLemmas.{IsRanked, two_few, rank_next, ranked_small, ranked_all}, table.ending_table.EndingTable.rank.Goals.{then-step-m-ge6, else-step-m-ge6}}
use Rattle.kalah_solve.proofs.table.ending_table.EndingTable.rank.Goals as goal

-- the joined rows of an ending hold few seeds
few : (a : HousesState) → IsEnding a → sum (a.own ++ a.other) ≤ most_ending_seeds
few a ending = omega (arith, sum_by-append (λ x. x) a.own a.other)

-- they have the cells of both sides
long : (a : HousesState) → AreWithinLimits a → length (a.own ++ a.other) ≡ 2 * length a.own
long a limits = omega (arith, length-append a.own a.other)

-- a step that passes two cells
module _ {a : HousesState} {step sums rank : ℕ} (limits : AreWithinLimits a) (ending : IsEnding a) (low : step < 6)
    (passes : 6 ≤ step + length a.own) (ranked : IsRanked (a.own ++ a.other) (step + length a.own - 6) sums rank) where
  -- both sums are numbers of seeds of an ending
  few_here : (sums % 1024 % 32 < COUNTS) × (sums % 1024 / 32 < COUNTS)
  few_here = two_few ranked (few a ending) (length a.own) (long a limits) limits.at_most_six (omega arith)

  -- what the two cells add, by their cell of the pairs
  ranked_here : (pairs : List ℕ) → ArePairs PAIRS pairs
      → IsRanked (a.own ++ a.other) (step + 1 + length a.own - 6) (sums / 1024)
      (rank + slice_index pairs (CELLS_OF_PAIR * (5 - step) + sums % 1024))
  ranked_here pairs are =
      let next : step + 1 + length a.own - 6 ≡ step + length a.own - 6 + 1 = omega arith in
      let two = few_here in
      let k = CELLS_OF_PAIR * (5 - step) + sums % 1024 in
      let past : k / CELLS_OF_PAIR ≡ 5 - step = omega (arith, two.0, two.1) in
      let first : k % 32 ≡ sums % 1024 % 32 = omega arith in
      let second : k / 32 % COUNTS ≡ sums % 1024 / 32 = omega (arith, two.0, two.1) in
      rw next (rank_next ranked (few a ending) (length a.own) (long a limits) limits.at_most_six (omega arith) (5 - step) _ (omega arith)
      (rw (past, first, second) at (are k (omega (arith, two.0, two.1)) (omega (arith, two.0)))))

pub bounds-self-inside-step : goal.bounds-self-inside-step
bounds-self-inside-step g c =
    let two = few_here c.m-m.ensures.limits c.requires c.loop-step-test.true (omega arith) c.loop-step.invariant in
    omega (arith, two.0, two.1)

pub loop-step-preserved : goal.loop-step-preserved
loop-step-preserved g c = elim c.if-step-m-ge6.branch [
  | then-step-m-ge6 w ↦
      rw (w.sums-is, w.rank-is) (ranked_here c.m-m.ensures.limits c.requires c.loop-step-test.true (omega arith) c.loop-step.invariant
      c.self.inside.pairs c.self.invariant.0)
  | else-step-m-ge6 w ↦
      let same : c.loop-step.step + 1 + length c.args.houses.now.own - 6 ≡ c.loop-step.step + length c.args.houses.now.own - 6 =
      omega arith in
      rw (same, w.sums-is, w.rank-is) c.loop-step.invariant
]

pub overflow_add-rank-then-step-m-ge6 : goal.overflow_add-rank-then-step-m-ge6
overflow_add-rank-then-step-m-ge6 g c =
    let a = c.args.houses.now in
    let limits = c.m-m.ensures.limits in
    let next = ranked_here limits c.requires c.loop-step-test.true (omega arith) c.loop-step.invariant
    c.self.inside.pairs c.self.invariant.0 in
    omega (arith, ranked_small (a.own ++ a.other) (few a c.requires) (omega (arith, long a limits)) next)

pub returns-clause-rank : goal.returns-clause-rank
returns-clause-rank g c =
    let a = c.args.houses.now in
    ranked_all (a.own ++ a.other) (omega (arith, long a c.m-m.ensures.limits)) c.loop-step.invariant

pub returns-clause-small : goal.returns-clause-small
returns-clause-small g c =
    let a = c.args.houses.now in
    let limits = c.m-m.ensures.limits in
    ranked_small (a.own ++ a.other) (few a c.requires) (omega (arith, long a limits)) c.loop-step.invariant
