-- The rank of a row of cells determines the row, and is added up from binomial coefficients and pairs of cells.
use Rattle.std.proofs.Common.{sym, ◌∙◌, ℕ, ◌≡◌, ◌≢◌, zero, suc, ◌+◌, ◌*◌, ◌/◌, ◌%◌, ◌^◌, ◌-◌, ◌<◌, ◌≤◌, arith, refl, ap, List, [], ◌∷◌, ◌++◌, length, get_or, drop, length-append, pow_mono, sum, slice_set, mul_comm, take}
use Rattle.std.proofs.{lemmas.{Nat.{pow_pos, mul-le}, Bool.{cases_eq}, List.{append_cancel_left, drop_more, length-drop, get_or-set_same, get_or-set_other, Sums.{sum_by-cons, sum_by-take-drop}}}, Math.{Nat.{div-eq_of_eq-mul_right}, Seq.{take-append_seam}}}
use Rattle.kalah_rules.specs.{Position.{HousesState, AreWithinLimits}, Key.{packed_row, variant_of}}
use Rattle.kalah_rules.proofs.KeyLemmas.{key-injective, packed_row-append, pow_five}
use Rattle.kalah_solve.specs.{choose, row_rank, packed_sums, rank_of_houses, most_ending_seeds, binomial_at, AreBinomials, pair_at, ArePairs, declared.table.ending_table.TheConstants.{COUNTS, BINOMIALS, INVERSE_OF_31}}

-- ==== Binomial coefficients

choose_le_suc : (n k : ℕ) → choose n k ≤ choose (suc n) k
unfolding choose
choose_le_suc n zero = omega arith
choose_le_suc n (suc k) = omega arith

choose_le_plus : (n d k : ℕ) → choose n k ≤ choose (n + d) k
choose_le_plus n zero k = grind arith
choose_le_plus n (suc d) k =
    let next : n + suc d ≡ suc (n + d) = omega arith in
    rw next (omega (arith, choose_le_plus n d k, choose_le_suc))

pub choose_rises : (n m k : ℕ) → n ≤ m → choose n k ≤ choose m k
choose_rises n m k few = let all : n + (m - n) ≡ m = omega arith in rw all at (choose_le_plus n (m - n) k)

choose_le_power : (n k : ℕ) → choose n k ≤ 2 ^ n
unfolding choose
choose_le_power n zero = omega (arith, pow_pos n)
choose_le_power zero (suc k) = omega arith
choose_le_power (suc n) (suc k) = omega (arith, choose_le_power n k, choose_le_power n (suc k))

choose_small : (n b k : ℕ) → n ≤ b → choose n k ≤ 2 ^ b
choose_small n b k few = omega (arith, choose_rises n b k few, choose_le_power b k)

choose_one : (n : ℕ) → choose n 1 ≡ n
unfolding choose
choose_one zero = refl
choose_one (suc n) = omega (arith, choose_one n)

pub choose_none : (n k : ℕ) → n < k → choose n k ≡ 0
unfolding choose
choose_none n zero more = omega arith
choose_none zero (suc k) more = refl
choose_none (suc n) (suc k) more = omega (arith, choose_none n k (omega arith), choose_none n (suc k) (omega arith))

choose_next : (n k : ℕ) → choose (suc n) (suc k) ≡ choose n k + choose n (suc k)
unfolding choose
choose_next n k = refl

-- of n + 1 things one and k others, or k + 1 and one of these
choose_absorbs : (n k : ℕ) → suc k * choose (suc n) (suc k) ≡ suc n * choose n k
unfolding choose
choose_absorbs zero zero = refl
choose_absorbs zero (suc k) = omega arith
choose_absorbs (suc n) zero = omega (arith, choose_one n)
choose_absorbs (suc n) (suc k) = omega (arith, choose_absorbs n k, choose_absorbs n (suc k))

-- the number of rows of n cells with at most the seeds of an ending, computed from that of rows of one cell less
abbrev pub rows_of : ℕ → ℕ
rows_of zero = 1
rows_of (suc n) = suc (most_ending_seeds + n) * rows_of n / suc n

pub rows_are : (n : ℕ) → choose (most_ending_seeds + n) n ≡ rows_of n
unfolding choose
rows_are zero = refl
rows_are (suc n) =
    let more : most_ending_seeds + suc n ≡ suc (most_ending_seeds + n) = omega arith in
    let product = choose_absorbs _ n ∙ ap (λ rows. suc (most_ending_seeds + n) * rows) (rows_are n) in
    rw more (sym (div-eq_of_eq-mul_right (omega arith) (sym product)))

-- a row's rank is below the ways to choose as many things as it has cells, of its seeds and cells
pub rank_below : (xs : List ℕ) → row_rank xs < choose (sum xs + length xs) (length xs)
unfolding choose
rank_below [] = omega arith
rank_below (x ∷ xs) =
    let all : sum (x ∷ xs) + suc (length xs) ≡ suc (x + sum xs + length xs) = omega (arith, sum_by-cons) in
    rw all (omega (arith, rank_below xs, choose_rises (sum xs + length xs) (x + sum xs + length xs) (length xs) (omega arith)))

-- of two rows of the same length the one with fewer seeds has the lower rank
rank_apart : (xs ys : List ℕ) → length xs ≡ length ys → sum xs < sum ys → row_rank xs < row_rank ys
rank_apart xs [] long less = omega arith
rank_apart xs (y ∷ ys) long less =
    let cells : length xs ≡ suc (length ys) = omega arith in
    let fewer = choose_rises (sum xs + suc (length ys)) (y + sum ys + length ys) (suc (length ys)) (omega (arith, sum_by-cons)) in
    omega (arith, rw cells at (rank_below xs))

-- rows with one rank have as many seeds
rank_seeds : (xs ys : List ℕ) → length xs ≡ length ys → row_rank xs ≡ row_rank ys → sum xs ≡ sum ys
rank_seeds xs ys long same = grind (arith, rank_apart)

-- rows with one rank are one row
row_rank-injective : (xs ys : List ℕ) → length xs ≡ length ys → row_rank xs ≡ row_rank ys → xs ≡ ys
row_rank-injective [] [] long same = refl
row_rank-injective [] (y ∷ ys) long same = absurd (omega arith)
row_rank-injective (x ∷ xs) [] long same = absurd (omega arith)
row_rank-injective (x ∷ xs) (y ∷ ys) long same =
    let seeds = rank_seeds (x ∷ xs) (y ∷ ys) long same in
    let cells : length xs ≡ length ys = omega arith in
    let total : x + sum xs + length xs ≡ y + sum ys + length ys = omega (arith, sum_by-cons) in
    let first : choose (x + sum xs + length xs) (suc (length xs)) ≡ choose (y + sum ys + length ys) (suc (length ys)) =
    rw (total, cells) refl in
    let rest = row_rank-injective xs ys cells (omega arith) in
    let here : x ≡ y = omega (arith, sum_by-cons, ap sum rest) in
    rw (here, rest) refl

-- houses of one variant with one rank are the same
pub houses_by_rank : (a b : HousesState) → AreWithinLimits a → AreWithinLimits b → variant_of a ≡ variant_of b
    → rank_of_houses a ≡ rank_of_houses b → a ≡ b
houses_by_rank a b limits_a limits_b variant rank =
    let side : length a.own ≡ length b.own = omega arith in
    let cells : length (a.own ++ a.other) ≡ length (b.own ++ b.other) =
    omega (arith, length-append a.own a.other, length-append b.own b.other) in
    let row = row_rank-injective _ _ cells rank in
    let own = rw (take-append_seam a.own a.other, side, take-append_seam b.own b.other) at (ap (take (length a.own)) row) in
    let other = append_cancel_left a.own a.other b.other (rw (← own) at row) in
    key-injective limits_a limits_b (omega (arith, ap packed_row own, ap packed_row other))

sums_by_number : (xs : List ℕ) → 31 * packed_sums xs + sum xs ≡ 32 * packed_row xs
sums_by_number [] = refl
sums_by_number (x ∷ xs) = omega (arith, sums_by_number xs, sum_by-cons)

-- the sums, by a division by 31 that is a multiplication
pub record AreSums (row : List ℕ) (number seeds : ℕ) : Type 0 where
  pub few : seeds ≤ number
  pub small : (number - seeds) * INVERSE_OF_31 % 2 ^ 64 < 2 ^ 58
  pub sums : seeds + (number - seeds) * INVERSE_OF_31 % 2 ^ 64 * 32 ≡ packed_sums row

-- a division by 31 gives the sums of a row
pub sums_are : (row : List ℕ) (number seeds : ℕ) → 1 ≤ length row → number ≡ packed_row row → seeds ≡ sum row
    → number < 2 ^ 60 → AreSums row number seeds
sums_are [] number seeds some number_is all below = omega arith
sums_are (x ∷ xs) number seeds some number_is all below =
    let whole : number ≡ seeds + 31 * packed_sums xs = omega (arith, sums_by_number, sum_by-cons) in
    omega (arith, sum_by-cons)

-- both rows of houses in one number, the other one moved up by 5 * m bits: it ends below bit 60, so nothing wraps
pub both_rows : {a : HousesState} {own other m : ℕ} → AreWithinLimits a → own ≡ packed_row a.own → other ≡ packed_row a.other
    → own < 2 ^ 30 → other < 2 ^ 30 → m ≡ length a.own
    → (own + other * 2 ^ (5 * m) % 2 ^ 64 ≡ packed_row (a.own ++ a.other)) × (own + other * 2 ^ (5 * m) % 2 ^ 64 < 2 ^ 60)
both_rows {a} {m = m} limits own_is other_is own_small other_small side =
    grind (arith, pow_mono, mul-le, length, packed_row, pow_five, mul_comm, packed_row-append)

-- ---- the cells of a row, two at a time
-- the sums of a row from its cell 2 * passed on, and what the cells before it add to its rank
pub record IsRanked (row : List ℕ) (passed sums added : ℕ) : Type 0 where
  pub left : sums ≡ packed_sums (drop (2 * passed) row)
  pub rank : added + row_rank (drop (2 * passed) row) ≡ row_rank row

-- the sums of two cells
record AreTwo (sums : ℕ) (x y : ℕ) (ys : List ℕ) : Type 0 where
  first : sums % 1024 % 32 ≡ x + (y + sum ys)
  second : sums % 1024 / 32 ≡ y + sum ys
  past : sums / 1024 ≡ packed_sums ys

-- they are in the lowest ten bits
two_sums : (x y : ℕ) (ys : List ℕ) → sum (x ∷ y ∷ ys) ≤ most_ending_seeds → AreTwo (packed_sums (x ∷ y ∷ ys)) x y ys
two_sums x y ys few = omega (arith, sum_by-cons)

-- two cells more of a row
module _ {row : List ℕ} {passed sums added : ℕ} (ranked : IsRanked row passed sums added) (few : sum row ≤ most_ending_seeds) (m : ℕ)
    (long : length row ≡ 2 * m) (most : m ≤ 6) (more : passed < m) where
  -- the next two cells, and those past them
  abbrev two_first : ℕ
  two_first = get_or row (2 * passed) 0

  abbrev two_second : ℕ
  two_second = get_or row (2 * passed + 1) 0

  abbrev two_past : List ℕ
  two_past = drop (2 * (passed + 1)) row

  two_more : drop (2 * passed) row ≡ two_first ∷ two_second ∷ two_past
  two_more = grind (arith, drop_more)

  two_less : sum (two_first ∷ two_second ∷ two_past) ≤ most_ending_seeds
  two_less = rw (← two_more) (omega (arith, sum_by-take-drop (λ (y : ℕ). y) row (2 * passed)))

  -- their sums are read off the sums that are left
  two_are : AreTwo sums two_first two_second two_past
  two_are = rw (ranked.left, two_more) (two_sums _ _ _ two_less)

  -- the rank of two cells more
  pub rank_next : (past c : ℕ) → past + passed + 1 ≡ m
      → c ≡ choose (sums % 1024 % 32 + 2 * past + 1) (2 * past + 2) + choose (sums % 1024 / 32 + 2 * past) (2 * past + 1)
      → IsRanked row (passed + 1) (sums / 1024) (added + c)
  rank_next past c past_is is_c = grind (arith, length-drop, two_are, sum_by-cons, two_more)

  pub two_few : (sums % 1024 % 32 < COUNTS) × (sums % 1024 / 32 < COUNTS)
  two_few = omega (arith, sum_by-cons, two_are.first, two_are.second, two_less)

-- what is added so far is small
pub ranked_small : (row : List ℕ) {passed sums added : ℕ} → sum row ≤ most_ending_seeds → length row ≤ 12
    → IsRanked row passed sums added → added < 2 ^ 21
ranked_small row few long ranked =
    omega (arith, rank_below row, choose_small (sum row + length row) 21 (length row) (omega arith))

rank_none : (xs : List ℕ) → length xs ≡ 0 → row_rank xs ≡ 0
rank_none [] none = refl
rank_none (x ∷ xs) none = omega arith

-- what is added is the rank once all cells are passed
pub ranked_all : (row : List ℕ) {passed sums added : ℕ} → length row ≤ 2 * passed → IsRanked row passed sums added
    → added ≡ row_rank row
ranked_all row {passed} all ranked = grind (arith, rank_none, drop, length-drop)

-- ==== The tables of binomials and pairs, cell by cell

-- the cells of rows of one cell
pub binomial_first : (i : ℕ) → i < COUNTS → binomial_at i ≡ i
binomial_first i few =
    let total : i % 10 + i / 10 ≡ i = omega arith in
    let one : suc (i / 10) ≡ 1 = omega arith in
    rw (total, one) (choose_one i)

-- each other is the sum of two before it
pub binomial_next : (i : ℕ) → COUNTS ≤ i → i % COUNTS ≢ 0 → binomial_at i ≡ binomial_at (i - COUNTS) + binomial_at (i - 1)
binomial_next i past some =
    let n = i % 10 + i / 10 - 1 in
    let here : i % 10 + i / 10 ≡ suc n = omega arith in
    let left : (i - 10) % 10 + (i - 10) / 10 ≡ n = omega arith in
    let left_cells : suc ((i - 10) / 10) ≡ i / 10 = omega arith in
    let up : (i - 1) % 10 + (i - 1) / 10 ≡ n = omega arith in
    let up_cells : suc ((i - 1) / 10) ≡ suc _ = omega arith in
    rw (here, left, left_cells, up, up_cells) (choose_next n _)

pub binomial_small : (i : ℕ) → i < BINOMIALS → binomial_at i ≤ 2 ^ 20
binomial_small i few = choose_small _ 20 _ (omega arith)

-- one cell more is right
pub binomials_more : (binomials : List ℕ) (i v : ℕ) → i < length binomials → AreBinomials i binomials → v ≡ binomial_at i
    → AreBinomials (i + 1) (slice_set binomials i v)
binomials_more binomials i v inside before v_is k below = grind (arith, cases_eq, get_or-set_same, get_or-set_other)

-- one pair more is right
pub pairs_more : (pairs : List ℕ) (i v : ℕ) → i < length pairs → ArePairs i pairs → (i % 32 < COUNTS → v ≡ pair_at i)
    → ArePairs (i + 1) (slice_set pairs i v)
pairs_more pairs i v inside before v_is k below few = grind (arith, cases_eq, get_or-set_same, get_or-set_other)
