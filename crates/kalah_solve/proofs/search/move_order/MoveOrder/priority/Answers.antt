-- Both lists have 31 cells, so each is computed and tested.
use Rattle.std.proofs.{Common.{arith, refl, ◌≡◌, ◌<◌, ◌+◌, ◌-◌, ◌/◌, ◌%◌, ◌==◌, ◌&&◌, [], Bool, ℕ, zero, suc, true, nat_lt, get_or}, lemmas.Bool.{agree_below_at, Decides.{nat_tests}}}
use Rattle.kalah_solve.specs.declared.search.move_order.weights.TheConstants.{PLACE_PRIORITIES}
use Rattle.kalah_solve.proofs.search.move_order.MoveOrder.priority.Goals as goal

-- cell k of a list
abbrev cell : ℕ → ℕ → ℕ
cell list k = get_or (get_or PLACE_PRIORITIES list []) k 0

-- it names the house of its turn, is not 0, and is small
abbrev is_right : ℕ → ℕ → Bool
is_right list k = (cell list k % 8 == k / 5 - list) && nat_lt 0 (cell list k) && nat_lt (cell list k) 422

-- each cell is right
all_right : (list k : ℕ) → list < 2 → k < 31 → is_right list k ≡ true
all_right zero k few within = agree_below_at (is_right 0) (λ k. true) 31 k refl within
all_right (suc zero) k few within = agree_below_at (is_right 1) (λ k. true) 31 k refl within
all_right (suc (suc list)) k few within = absurd (omega arith)

pub overflow_cast-result-2 : goal.overflow_cast-result-2
overflow_cast-result-2 c = grind (arith, nat_tests, all_right (c.m-m.result / 6) (c.m-m.result + c.bit.result - 1) (omega arith) (omega arith))

pub returns-clause-some : goal.returns-clause-some
returns-clause-some c = grind (arith, nat_tests, all_right (c.m-m.result / 6) (c.m-m.result + c.bit.result - 1) (omega arith) (omega arith))

pub returns-clause-house : goal.returns-clause-house
returns-clause-house c = grind (arith, nat_tests, all_right (c.m-m.result / 6) (c.m-m.result + c.bit.result - 1) (omega arith) (omega arith))
