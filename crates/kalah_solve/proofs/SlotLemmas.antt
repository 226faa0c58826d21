-- What the slots of houses state stays true: a slot and a tag determine the key.
use Rattle.std.proofs.Common.{ℕ, ◌≡◌, ◌+◌, ◌*◌, ◌/◌, ◌%◌, ◌^◌, ◌-◌, ◌<◌, ◌≤◌, arith, sym, refl, ap, List, length, ◌∙◌, pow_mono, slice_set, pow_pos, pow-add}
use Rattle.std.proofs.{Math.{Nat.{div-div-eq-div-mul, div-lt_iff_lt-mul}, ListN.{replicate, length-replicate, length-set}}, lemmas.{Bool.{cases_lt, cases_eq}, List.{get_or-set_same, get_or-set_other, get_or-replicate}}}
use Rattle.kalah_rules.specs.{Limits.{most_seeds}, Position.{HousesState, AreWithinLimits}, Key.{key_of}}
use Rattle.kalah_rules.proofs.KeyLemmas.{key-injective, key_fits}
use Rattle.kalah_solve.specs.{won, mixed, slot_index, tag_of, stored_tag, stored_least, stored_most, IsWithinSlot, AreTrueSlots, declared.table.slot_table.Slot.{Slot}}
use Rattle.kalah_solve.proofs.BoundsLemmas.{won_of_houses}

-- the inverse, modulo 2 ^ 64, of the number by which a key is mixed
abbrev inverse_of_mix : ℕ
inverse_of_mix = 17428512612931826493

unmixed : (k : ℕ) → k < 2 ^ 64 → (mixed k * inverse_of_mix) % 2 ^ 64 ≡ k
unfolding mixed
unmixed k small = omega arith

mixed-injective : (k l : ℕ) → k < 2 ^ 64 → l < 2 ^ 64 → mixed k ≡ mixed l → k ≡ l
mixed-injective k l hk hl same = sym (unmixed _ hk) ∙ ap (λ x. (x * inverse_of_mix) % 2 ^ 64) same ∙ unmixed _ hl

-- bits from bit 54 on are among those from an earlier bit on
bits_among : (s n : ℕ) → s ≤ 54 → n / 2 ^ 54 ≡ slot_index s n / 2 ^ (54 - s)
bits_among s n few =
    let all : s + (54 - s) ≡ 54 = omega arith in
    let worth : 2 ^ s * 2 ^ (54 - s) ≡ 2 ^ 54 = rw (← pow-add 2 s (54 - s)) (ap (λ k. 2 ^ k) all) in
    rw (div-div-eq-div-mul n (2 ^ s) (2 ^ (54 - s)), worth) refl

-- so two numbers with one slot and one tag are equal
slot_and_tag-injective : (s x y : ℕ) → s ≤ 54 → tag_of x ≡ tag_of y → slot_index s x ≡ slot_index s y → x ≡ y
slot_and_tag-injective s x y few rest same = omega (arith, bits_among s x few, bits_among s y few, ap (λ slot. slot / 2 ^ (54 - s)) same)

pub slot_inside : (s n : ℕ) → s < 64 → n < 2 ^ 64 → slot_index s n < 2 ^ (64 - s)
slot_inside s n few small =
    let all : 64 - s + s ≡ 64 = omega arith in
    let worth : 2 ^ (64 - s) * 2 ^ s ≡ 2 ^ 64 = rw (← pow-add 2 (64 - s) s) (ap (λ k. 2 ^ k) all) in
    (div-lt_iff_lt-mul (pow_pos s)).1 (rw worth small)

-- houses with one slot and one tag are the same
houses_by_slot_and_tag : (s : ℕ) (a b : HousesState) → s ≤ 54 → AreWithinLimits a → AreWithinLimits b
    → tag_of (mixed (key_of a)) ≡ tag_of (mixed (key_of b)) → slot_index s (mixed (key_of a)) ≡ slot_index s (mixed (key_of b))
    → a ≡ b
houses_by_slot_and_tag s a b enough limits_a limits_b rest place =
    grind (arith, key-injective, mixed-injective, key_fits, slot_and_tag-injective)

-- a power of two that is more than half of a number of at least 1,024 is at least 2^10
pub ten_bits : (bits n : ℕ) → 1024 ≤ n → n < 2 * 2 ^ bits → 10 ≤ bits
ten_bits bits n some next = grind (arith, cases_lt, pow_mono {i = bits} {j = 9})

-- slots stay true once one more is stored
pub slots_stay_true : (s : ℕ) (slots : List Slot) {a : HousesState} {number at : ℕ} {p : Slot} → s ≤ 54 → AreTrueSlots s slots
    → AreWithinLimits a → number ≡ mixed (key_of a) → at ≡ slot_index s number → at < length slots
    → stored_tag p ≡ tag_of number → IsWithinSlot p (won a) → AreTrueSlots s (slice_set slots at p)
slots_stay_true s slots enough before limits number_is place inside rest known b number_b d limits_b number_b_is inside_b rest_b =
    grind (arith, length-set, cases_eq, get_or-set_same, houses_by_slot_and_tag, get_or-set_other)

-- slots that all hold what is known of all houses
pub unknown_slots_are_true : (s count : ℕ) (p : Slot) → stored_least p ≡ 0 → stored_most p ≡ most_seeds → AreTrueSlots s (replicate count p)
unknown_slots_are_true s count p none all a number d limits number_is inside rest = grind (arith, won_of_houses, get_or-replicate, length-replicate)
