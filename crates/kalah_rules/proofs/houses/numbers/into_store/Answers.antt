-- There are 36 pairs of a side and a house at most, so each cell of the table is computed.
use Rattle.std.proofs.{Common.{arith, refl, ◌≡◌, ◌≤◌, ◌<◌, ◌+◌, ◌-◌, ◌*◌, ◌/◌, ◌%◌, ◌^◌, ◌==◌, Bool, ℕ, true, nat_le, if◌then◌else◌, get_or}, lemmas.Bool.{agree_below_at, Decides.{nat_tests}}}
use Rattle.kalah_rules.specs.{ones, declared.houses.numbers.TheConstants.{INTO_STORE}}
use Rattle.kalah_rules.proofs.houses.numbers.into_store.Goals as goal

-- the cell of house h of m has what its move adds to the rows
abbrev is_right : ℕ → ℕ → Bool
is_right m h = (get_or INTO_STORE (m + 5 * (h - 1) - 1) 0 + 32 ^ (h - 1) * (m + 1 - h)) % 2 ^ 64 == ones m - ones h

-- house k % 6 + 1 of k / 6 + 1, if there is one
abbrev is_right_at : ℕ → Bool
is_right_at k = if nat_le (k % 6) (k / 6) then is_right (k / 6 + 1) (k % 6 + 1) else true

-- each cell has it: there are 36 at most to look at
right_at : (k : ℕ) → k < 36 → is_right_at k ≡ true
right_at k few = agree_below_at is_right_at (λ k. true) 36 k refl few

-- the same by houses a side
right : (m h : ℕ) → m ≤ 6 → 1 ≤ h → h ≤ m → is_right m h ≡ true
right m h side first last =
    let k = 6 * (m - 1) + (h - 1) in
    let at_m : k / 6 + 1 ≡ m = omega arith in
    let at_h : k % 6 + 1 ≡ h = omega arith in
    let right_there : is_right (k / 6 + 1) (k % 6 + 1) ≡ true = grind (arith, nat_tests, right_at k (omega arith)) in
    rw (at_m, at_h) at right_there

pub returns : goal.returns
returns c = grind (arith, nat_tests, right c.args.m c.args.house c.requires.side c.index_in.ensures.first c.requires.last)
