-- A mask of all bits or of none keeps both numbers, or leaves 0 of each.
use Rattle.std.proofs.{Common.{arith, ◌≡◌, ◌+◌, ◌<◌, ◌^◌, ◌&&◌, ℕ, Bool, true, false, MatchBool, cond, bit_and, refl, ◌≤◌, ◌-◌, ◌%◌}, lemmas.Nat.{and_le_l, and_le_r, and_mask}}
use Rattle.kalah_rules.specs.{captures}
use Rattle.kalah_rules.proofs.houses.play.captured_seeds.Goals as goal

-- a number under a mask of all bits or none
masked : (holds : Bool) (bit mask x y : ℕ) → bit ≡ cond holds 1 0 → mask ≡ (0 + (2 ^ 64 - bit)) % 2 ^ 64 → x < 2 ^ 64
    → y < 2 ^ 64 → MatchBool holds ((bit_and x mask ≡ x) × (bit_and y mask ≡ y)) ((bit_and x mask ≡ 0) × (bit_and y mask ≡ 0))
masked true bit mask x y bit_is mask_is x_fits y_fits =
    let all : mask ≡ 18446744073709551615 = omega arith in
    rw all (omega (arith, and_mask x 64, and_mask y 64))
masked false bit mask x y bit_is mask_is x_fits y_fits =
    let none : mask ≡ 0 = omega arith in
    rw none (omega (arith, and_le_r x 0, and_le_r y 0))

-- a mask adds nothing
few : (x mask : ℕ) → x ≤ 32 → bit_and x mask ≤ 32
few x mask small = omega (arith, and_le_l x mask)

pub returns-clause-few : goal.returns-clause-few
returns-clause-few c = few _ _ (omega arith)

pub returns-clause-captured : goal.returns-clause-captured
returns-clause-captured c =
    masked (c.args.single && captures c.args.rule c.args.across) c.from-mask.result _ _ _ (grind arith) refl (omega arith) (omega arith)
