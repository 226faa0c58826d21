-- After i places the greatest so far is one of the priorities, and none of those is greater.
use Rattle.std.proofs.{Common.{arith, ◌≡◌, ◌≤◌, ◌<◌, ◌+◌, ℕ, List, length, get_or, inl, inr, Contains, max}, lemmas.{Bool.{cases_lt}, List.Elements.{Contains-get_or}}}
use Rattle.kalah_solve.proofs.SearchLemmas.{place_inside}
use Rattle.kalah_solve.proofs.search.waiting_turns.WaitingTurns.highest.Goals as goal

-- the greater of a priority and the next one is a priority
found_more : (xs : List ℕ) (most i new : ℕ) → Contains xs most → i < length xs → new ≡ max most (get_or xs i 0)
    → Contains xs new
found_more xs most i new found inside new_is = elim (cases_lt most (get_or xs i 0)) [
  | inl less ↦ let at : new ≡ get_or xs i 0 = omega arith in rw at (Contains-get_or xs i 0 inside)
  | inr more ↦ let at : new ≡ most = omega arith in rw at found
]

-- no priority up to the next one is greater
highest_more : (xs : List ℕ) (most i new : ℕ) → ((k : ℕ) → k < i → get_or xs k 0 ≤ most) → new ≡ max most (get_or xs i 0)
    → (k : ℕ) → k < i + 1 → get_or xs k 0 ≤ new
highest_more xs most i new highest new_is k below = grind arith

pub loop-i-preserved : goal.loop-i-preserved
loop-i-preserved c = record {
  found = found_more _ c.loop-i.most c.loop-i.i _ c.loop-i.invariant.found (omega arith) c.max-most.ensures;
  highest = highest_more _ c.loop-i.most c.loop-i.i _ c.loop-i.invariant.highest c.max-most.ensures;
}

pub returns-clause-inside : goal.returns-clause-inside
returns-clause-inside c = place_inside c.args.self.now.placed c.loop-i.invariant.found
