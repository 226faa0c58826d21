-- What the words of endings state is what the mover wins, and stays so: each ending has digits of its own in its word.
use Rattle.std.proofs.Common.{nat_le, true, ℕ, ◌≡◌, ◌≢◌, zero, suc, ◌+◌, ◌*◌, ◌/◌, ◌%◌, ◌^◌, ◌-◌, ◌<◌, ◌≤◌, arith, refl, List, ◌++◌, length, get_or, length-append, lit≤, pow_mono, sum, slice_set, slice_index, false, max, ◌↔◌}
use Rattle.std.proofs.{Math.{Nat.{add-mul-div_right, div-div-eq-div-mul}, ListN.{replicate, length-replicate, length-set}}, lemmas.{Nat.{pow_pos, pow-add, mul-le}, Bool.{cases_lt, cases_eq, agree_below_at, Decides.{nat_tests}}, List.{get_or-set_same, get_or-set_other, get_or-replicate, get_or_past, Sums.{sum_by-append}}}}
use Rattle.kalah_rules.specs.{Position.{HousesState, AreWithinLimits, storeless, is_over, total_seeds}, HousesStep.{houses_step}}
use Rattle.kalah_rules.proofs.{KeyLemmas.{rule_bit-small}, PlayLemmas.{IsLegal, legal_holds}}
use Rattle.kalah_solve.specs.{choose, rank_of_houses, most_ending_seeds, IsEnding, HoldsWon, AreTrueWords, word_index, stored_at, won, won_by_step, cell, IsLastIn, without_house, declared.table.ending_table.words.TheConstants.{FIRST_WORDS, WORDS}}
use Rattle.atomic_table.specs.Table.{State, Arrives, keeps}
use Rattle.kalah_solve.proofs.{HouseSetLemmas.{EachOutside, cell_of_zero, each_outside_without_last}, BoundsLemmas.{won_at_most, won_reached, won_of_houses}, RankLemmas.{choose_rises, rank_below, houses_by_rank, rows_of, rows_are}}

-- ==== The digits of a number, of four bits each

power_of_next_place : (k : ℕ) → 2 ^ (4 * suc k) ≡ 16 * 2 ^ (4 * k)
power_of_next_place k = let more : 4 * suc k ≡ 4 + 4 * k = omega arith in rw (more, pow-add) refl

digits_from_next_place : (n k : ℕ) → n / 2 ^ (4 * suc k) ≡ n / 16 / 2 ^ (4 * k)
digits_from_next_place n k = simp (power_of_next_place, div-div-eq-div-mul)

-- a digit put at an empty place leaves all from a later place on
same_digits_past : (k e n d : ℕ) → k < e → stored_at n k ≡ 0 → d < 16 → (n + d * 2 ^ (4 * k)) / 2 ^ (4 * e) ≡ n / 2 ^ (4 * e)
same_digits_past k zero n d later none small = omega arith
same_digits_past zero (suc e) n d later none small = grind (arith, digits_from_next_place)
same_digits_past (suc k) (suc e) n d later none small =
    let more : d * 2 ^ (4 * suc k) ≡ d * 2 ^ (4 * k) * 16 = rw (power_of_next_place k) (omega arith) in
    let sixteenth : (n + d * 2 ^ (4 * k) * 16) / 16 ≡ n / 16 + d * 2 ^ (4 * k) = omega arith in
    rw (more, digits_from_next_place (n + d * 2 ^ (4 * k) * 16) e, digits_from_next_place n e, sixteenth)
    (same_digits_past k e (n / 16) d (omega arith) (rw (digits_from_next_place n k) at none) small)

-- a digit put at an empty place is found there
put_digit_is_there : (k n d : ℕ) → stored_at n k ≡ 0 → d < 16 → stored_at (n + d * 2 ^ (4 * k)) k ≡ d
put_digit_is_there k n d none small = omega (arith, add-mul-div_right, pow_pos)

-- what is put at a later place leaves all digits before it
same_digits_before : (j k n d : ℕ) → j < k → stored_at (n + d * 2 ^ (4 * k)) j ≡ stored_at n j
same_digits_before j zero n d before = omega arith
same_digits_before zero (suc k) n d before = rw (power_of_next_place k) (omega arith)
same_digits_before (suc j) (suc k) n d before =
    let sixteenth : (n + d * 2 ^ (4 * suc k)) / 16 ≡ n / 16 + d * 2 ^ (4 * k) = rw (power_of_next_place k) (omega arith) in
    rw (digits_from_next_place, digits_from_next_place n j, sixteenth) (same_digits_before j k _ d (omega arith))

-- a digit put at an empty place leaves each other digit
same_digits_elsewhere : (j k n d : ℕ) → j ≢ k → stored_at n k ≡ 0 → d < 16
    → stored_at (n + d * 2 ^ (4 * k)) j ≡ stored_at n j
same_digits_elsewhere j k n d other none small = grind (arith, cases_lt, same_digits_before, same_digits_past)

pub digit_fits : (k d : ℕ) → k < 16 → d < 16 → d * 2 ^ (4 * k) < 2 ^ 64
digit_fits k d place small = omega (arith, mul-le d (2 ^ (4 * k)) 15 (2 ^ 60) (omega (arith, small)) (pow_mono {j = 60} (omega arith)))

-- with a digit put at an empty place a word stays a word
pub word_with_digit_fits : (k n d : ℕ) → k < 16 → stored_at n k ≡ 0 → d < 16 → n < 2 ^ 64 → n + d * 2 ^ (4 * k) < 2 ^ 64
word_with_digit_fits k n d place none small fits = omega (arith, same_digits_past k 16 n d place none small)

-- ==== What words of endings state stays true

-- ---- the words of different variants are different

-- the first word of the variant of the classic rule with m houses a side
abbrev first_word : ℕ → ℕ
first_word m = slice_index FIRST_WORDS m

-- a variant has a word for each sixteen of its endings
enough_words : (m : ℕ) → 1 ≤ m → m ≤ 6 → choose (most_ending_seeds + 2 * m) (2 * m) + 16 * first_word m ≤ 16 * first_word (suc m)
enough_words m some most =
    let at : suc (m - 1) ≡ m = omega arith in
    let enough = agree_below_at (λ k. nat_le (rows_of (2 * suc k) + 16 * first_word (suc k)) (16 * first_word (suc (suc k)))) (λ k. true) 6
    (m - 1) refl (omega arith) in
    grind (arith, nat_tests, rows_are (2 * m), rw at at enough)

first_word_rises : (m n : ℕ) → m ≤ n → n ≤ 7 → first_word m ≤ first_word n
first_word_rises m n below most = grind arith

-- an ending's word is one of its variant's
word_is_of_variant : (a : HousesState) → AreWithinLimits a → IsEnding a
    → first_word (length a.own) + rank_of_houses a / 16 < first_word (suc (length a.own))
word_is_of_variant a limits ending =
    let m = length a.own in
    let row = a.own ++ a.other in
    let cells : length row ≡ 2 * m = omega (arith, length-append a.own a.other) in
    let seeds : sum row ≤ most_ending_seeds = omega (arith, ending, sum_by-append (λ x. x) a.own a.other) in
    let all : rank_of_houses a < choose (most_ending_seeds + length row) (length row) =
    omega (arith, rank_below row, choose_rises (sum row + length row) (most_ending_seeds + length row) (length row) (omega arith)) in
    let below = rw cells at all in
    omega (arith, enough_words m limits.some_house limits.at_most_six)

-- an ending's word is one of all
pub word_inside : {a : HousesState} → AreWithinLimits a → IsEnding a → word_index a < WORDS
word_inside {a} limits ending = grind (arith, word_is_of_variant)

-- endings of one word and one place in it are the same: the word is of one variant, and with the place it has one rank there
word_and_place-injective : (a b : HousesState) → AreWithinLimits a → AreWithinLimits b → IsEnding a → IsEnding b
    → word_index a ≡ word_index b → rank_of_houses a % 16 ≡ rank_of_houses b % 16 → a ≡ b
word_and_place-injective a b limits_a limits_b ending ending_b word place =
    grind (arith, word_is_of_variant, first_word_rises, lit≤, rule_bit-small, cases_lt, houses_by_rank)

-- ---- what the words state

states_nothing : (i : ℕ) → HoldsWon i 0
unfolding HoldsWon
states_nothing i a limits ending word_is stored = omega arith

-- what a word states stays true when one more ending is stored in it
states_one_more : (word : ℕ) (a : HousesState) → HoldsWon (word_index a) word → AreWithinLimits a → IsEnding a
    → stored_at word (rank_of_houses a % 16) ≡ 0 → won a ≤ most_ending_seeds
    → HoldsWon (word_index a) (word + suc (won a) * 2 ^ (4 * (rank_of_houses a % 16)))
unfolding HoldsWon
states_one_more word a before limits ending none small b limits_b ending_b word_is stored =
    grind (arith, rank_of_houses, won, cases_eq, word_and_place-injective, put_digit_is_there, same_digits_elsewhere, stored)

-- a stored ending is right
pub stored_is_won : (word : ℕ) (a : HousesState) → HoldsWon (word_index a) word → AreWithinLimits a → IsEnding a
    → stored_at word (rank_of_houses a % 16) ≢ 0 → stored_at word (rank_of_houses a % 16) ≡ suc (won a)
unfolding HoldsWon
stored_is_won word a states limits ending some = states a limits ending refl some

-- ---- the steps on them

pub zeros_are_true : (n : ℕ) → AreTrueWords (replicate n 0)
zeros_are_true n i = grind (arith, cases_lt, get_or-replicate, states_nothing, get_or_past, length-replicate)

-- words stay true if one states what is true
words_stay_true : (words : List ℕ) (i word : ℕ) → HoldsWon i word → AreTrueWords words → AreTrueWords (slice_set words i word)
words_stay_true words i word states holds j =
    grind (arith, cases_lt, cases_eq, get_or-set_same, get_or-set_other, get_or_past, length-set, states_nothing)

-- a new seat may write into a word what is true of its endings
word_may_be_written : (slots i word : ℕ) → HoldsWon i word
    → Arrives (λ (s : State (Unit {0}) (Unit {0})). AreTrueWords s.words) slots i (λ n. word) (λ n me. Unit {0})
word_may_be_written slots i word states s holds homes small = (tt, keeps, tt, words_stay_true s.words i word states holds, tt)

-- what the mover wins of an ending may be written at its empty place in its word
pub ending_may_be_written : {a : HousesState} {at rank known new : ℕ} (slots word : ℕ) → HoldsWon at word → at ≡ word_index a
    → AreWithinLimits a → IsEnding a → rank ≡ rank_of_houses a → known ≡ won a → stored_at word (rank % 16) ≡ 0
    → new ≡ word + (known + 1) * 2 ^ (4 * (rank % 16))
    → Arrives (λ (s : State (Unit {0}) (Unit {0})). AreTrueWords s.words) slots at (λ n. new) (λ n me. Unit {0})
ending_may_be_written {a} slots word states at_is limits ending rank_is known_is none new_is =
    let few : won a ≤ most_ending_seeds = omega (arith, (won_of_houses limits).few) in
    let one_more : suc (won a) ≡ won a + 1 = omega arith in
    let there = states_one_more word a (rw at_is at states) limits ending (rw rank_is at none) few in
    word_may_be_written slots _ _ (rw (at_is, new_is, known_is, rank_is) (rw one_more at there))

-- ==== The most that a move wins

-- best play wins at least `most`, and no legal move of a house outside the set wins more
pub record IsMostOutside (a : HousesState) (mask most : ℕ) : Type 0 where
  pub reached : most ≤ won a
  pub all : EachOutside a mask (λ i. won_by_step (houses_step a i) ≤ most)

-- 0, while the set has all houses with seeds
pub most_at_start : {a : HousesState} {mask : ℕ} → ((i : ℕ) → (0 < cell mask i) ↔ (0 < get_or a.own i 0)) → IsMostOutside a mask 0
most_at_start {a} members = record {
  reached = omega arith;
  all = λ i legal outside. absurd (let some = (members _).1 (legal_holds (storeless a) legal).some in omega arith);
}

-- the last house of the set was tried
pub most_with_last : {a : HousesState} {mask most h v new : ℕ} → AreWithinLimits a → IsMostOutside a mask most
    → IsLastIn mask h → IsLegal a h → v ≡ won_by_step (houses_step a h) → new ≡ max most v
    → IsMostOutside a (without_house mask h) new
most_with_last {a} {most = most} {h} {new = new} limits most_is last legal v_is new_is = record {
  reached = omega (arith, won_at_most limits h legal);
  all = each_outside_without_last a (λ i. won_by_step (houses_step a i) ≤ new) last (omega arith)
      (λ i legal_i place outside. omega arith);
}

-- if all seeds are won, best play wins as many
pub most_is_all : {a : HousesState} {mask most : ℕ} → AreWithinLimits a → IsMostOutside a mask most
    → total_seeds a ≤ most → most ≡ won a
most_is_all limits most_is full = omega (arith, (won_of_houses limits).few)

-- once the set is empty, best play wins the most of those tried
pub won_is_most : {a : HousesState} {mask most : ℕ} → AreWithinLimits a → is_over (storeless a) ≡ false
    → IsMostOutside a mask most → mask ≡ 0 → most ≡ won a
won_is_most limits going most_is none = grind (arith, won_reached, cell_of_zero)
