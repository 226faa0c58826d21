-- Sets of houses, read off the cells of their masks, and the moves of their houses.
use Rattle.std.proofs.Common.{◌≡◌, ◌≢◌, ℕ, zero, suc, ◌+◌, ◌*◌, ◌/◌, ◌%◌, ◌^◌, ◌-◌, ◌<◌, ◌≤◌, inl, inr, List, [], ◌∷◌, get_or, arith, sym, refl, ap, ◌∙◌, length, subst, min, sum, ◌↔◌, slice_index, false, Contains, pow_mono}
use Rattle.std.proofs.lemmas.{Nat.{leading_top, xor_lt, and_block, or_block, and_mask, and_le_l, and_le_r, or_lt, le_or_l, le_or_r, xor_mod, xor_shr}, List.{get_or_past, Sums.{get_or-le-sum_by}, FromFn.{get_or-map-range_with_len}}, Bool.{cases_lt, cases_eq}}
use Rattle.std.specs.Int.{Bits.{bit_and, bit_or, bit_xor, xor_add_and, xor_self}, Count.{count_leading_zeros}}
use Rattle.kalah_rules.specs.{Position.{HousesState, AreWithinLimits, is_over, storeless}, Sowing.{row_of, EndsDirectlyInStore}, Key.{packed_row}, Fields.{BeginsHouse, ones}}
use Rattle.kalah_rules.proofs.{KeyLemmas.{pow_five, ones_le}, PlayLemmas.{IsLegal, holds_legal, legal_holds, length-row_of}}
use Rattle.kalah_solve.specs.{cell, IsMask, IsLastIn, IsMaskOfFilled, IsMaskIntoStore, all_into_store, without_house}

-- ==== Cells of a number

pub cell_of_zero : (i : ℕ) → cell 0 i ≡ 0
cell_of_zero zero = refl
cell_of_zero (suc i) = cell_of_zero i

cell_past : (k i number : ℕ) → number < 32 ^ k → k ≤ i → cell number i ≡ 0
cell_past zero i number small past = let none : number ≡ 0 = omega arith in ap (λ n. cell n i) none ∙ cell_of_zero i
cell_past (suc k) zero number small past = omega arith
cell_past (suc k) (suc i) number small past = cell_past k i _ (omega arith) (omega arith)

-- the cells of a row's number are the row
cell_of_row : (xs : List ℕ) (i : ℕ) → ((k : ℕ) → get_or xs k 0 < 32) → cell (packed_row xs) i ≡ get_or xs i 0
cell_of_row [] i few = cell_of_zero i
cell_of_row (x ∷ xs) zero few = omega (arith, few 0)
cell_of_row (x ∷ xs) (suc i) few =
    let rest : packed_row (x ∷ xs) / 32 ≡ packed_row xs = omega (arith, few 0) in
    ap (λ n. cell n i) rest ∙ cell_of_row xs i (λ k. few (suc k))

house_le_sum : (xs : List ℕ) (k : ℕ) → get_or xs k 0 ≤ sum xs
house_le_sum xs k = grind (arith, cases_lt, get_or-le-sum_by (λ (y : ℕ). y), get_or_past)

-- a row of m houses, given house by house, holds few seeds in each
module _ (m : ℕ) (f : ℕ → ℕ) (few : (h : ℕ) → f h < 32) where
  row_of-few : (k : ℕ) → get_or (row_of m f) k 0 < 32
  row_of-few k = grind (arith, cases_lt, get_or-map-range_with_len, get_or_past, length-row_of)

  cell_inside : (i : ℕ) → i < m → cell (packed_row (row_of m f)) i ≡ f (i + 1)
  cell_inside i inside = grind (arith, cell_of_row, row_of-few, get_or-map-range_with_len)

  cell_outside : (i : ℕ) → m ≤ i → cell (packed_row (row_of m f)) i ≡ 0
  cell_outside i past = grind (arith, cell_of_row, row_of-few, get_or_past, length-row_of)

cell_xor : (i a b : ℕ) → cell (bit_xor a b) i ≡ bit_xor (cell a i) (cell b i)
cell_xor zero a b = xor_mod a b 5
cell_xor (suc i) a b = ap (λ n. cell n i) (xor_shr a b 5) ∙ cell_xor i (a / 32) _

-- six cells with at most one each are a mask
mask_of_six : {mask : ℕ} → mask < 2 ^ 30 → ((i : ℕ) → i < 6 → cell mask i ≤ 1) → IsMask mask
mask_of_six {mask} small single = record { small = small; single = λ i. grind (arith, cases_lt, cell_past 6 i mask small) }

-- ==== The last house of a set

highest_cell_some : (q n : ℕ) → 32 ^ q ≤ n → n < 32 ^ suc q → 0 < cell n q
highest_cell_some zero n low high = omega arith
highest_cell_some (suc q) n low high = highest_cell_some q _ (omega arith) (omega arith)

-- one less in the highest cell leaves the others
other_cells_kept : (q i n : ℕ) → 32 ^ q ≤ n → n < 32 ^ suc q → i ≢ q → cell (n - 32 ^ q) i ≡ cell n i
other_cells_kept zero zero n low high other = omega arith
other_cells_kept zero (suc i) n low high other = grind arith
other_cells_kept (suc q) zero n low high other = omega arith
other_cells_kept (suc q) (suc i) n low high other =
    let rest : (n - 32 ^ suc q) / 32 ≡ n / 32 - 32 ^ q = omega arith in
    ap (λ k. cell k i) rest ∙ other_cells_kept q i (n / 32) (omega arith) (omega arith) (omega arith)

-- one less there leaves no more there
highest_cell_falls : (q n : ℕ) → 32 ^ q ≤ n → n < 32 ^ suc q → cell (n - 32 ^ q) q ≤ cell n q
highest_cell_falls zero n low high = omega arith
highest_cell_falls (suc q) n low high =
    let rest : (n - 32 ^ suc q) / 32 ≡ n / 32 - 32 ^ q = omega arith in
    rw rest (highest_cell_falls q _ (omega arith) (omega arith))

-- if the highest cell holds one, it bounds the number
below_twice_highest : (q n : ℕ) → n < 32 ^ suc q → cell n q ≤ 1 → n < 2 * 32 ^ q
below_twice_highest zero n high single = omega arith
below_twice_highest (suc q) n high single = omega (arith, below_twice_highest q _ (omega arith) single)

-- without the last house all others stay, and none is new
module _ (mask h : ℕ) (last : IsLastIn mask h) where
  last_is_in : 0 < cell mask (h - 1)
  last_is_in = highest_cell_some _ _ last.low last.high

  in_before : (i : ℕ) → 0 < cell (without_house mask h) i → 0 < cell mask i
  in_before i some = grind (arith, cases_eq, last_is_in, other_cells_kept)

  -- each other house that is not in it was not before
  outside_before : (i : ℕ) → i ≢ h - 1 → cell (without_house mask h) i ≡ 0 → cell mask i ≡ 0
  outside_before i other none = omega (arith, other_cells_kept)

-- without the last house the mask is lower
pub without_last_less : {mask h rest : ℕ} → IsLastIn mask h × (rest ≡ without_house mask h) → rest < mask
without_last_less popped = omega arith

-- the last house is found by the leading zeros
last_by_zeros : {mask leading : ℕ} → 0 < mask → mask < 2 ^ 30 → leading ≡ count_leading_zeros 64 mask
    → IsLastIn mask ((63 - leading) / 5 + 1)
last_by_zeros {mask} {leading} some small leading_are =
    let top = leading_top 64 _ some (omega arith) in
    let q = (63 - leading) / 5 in
    let at : q + 1 - 1 ≡ q = omega arith in
    let place : 63 - leading ≡ top.0 = omega arith in
    let low : 32 ^ q ≤ mask = let power : 2 ^ _ ≤ 2 ^ top.0 = pow_mono {i = 5 * q} (omega arith) in
    omega (arith, pow_five) in
    let high : mask < 32 ^ suc q = let power : 2 ^ suc _ ≤ 2 ^ (5 * suc q) = pow_mono {i = suc top.0} (omega arith) in
    omega (arith, pow_five) in
    record {
      first = omega arith;
      last = elim (cases_lt q 6) [
        | inl less ↦ omega arith
        | inr many ↦ absurd (let power : 2 ^ 30 ≤ 2 ^ (5 * q) = pow_mono {i = 30} (omega arith) in omega (arith, pow_five))
      ];
      low = rw at low;
      high = rw at high;
    }

-- the highest bit is where the last house begins
last_begins_house : {mask leading : ℕ} → 0 < mask → IsMask mask → leading ≡ count_leading_zeros 64 mask
    → BeginsHouse (63 - leading)
last_begins_house {mask} {leading} some marked leading_are =
    let top = leading_top 64 mask some (omega (arith, marked.small)) in
    let q = (63 - leading) / 5 in
    let at : q + 1 - 1 ≡ q = omega arith in
    let last = last_by_zeros some marked.small leading_are in
    let few = below_twice_highest _ _ (rw at at last.high) (marked.single q) in
    let place : 63 - leading ≡ top.0 = omega arith in
    let whole : 5 * q ≡ 63 - leading = elim (cases_lt (5 * q) (63 - leading)) [
      | inl less ↦ absurd (let power : 2 ^ suc (5 * q) ≤ 2 ^ top.0 = pow_mono {i = suc (5 * q)} (omega arith) in
          omega (arith, pow_five q))
      | inr same ↦ omega arith
    ] in
    omega arith

-- the last house is worth a power of 32
last_is_power : {mask bit : ℕ} → mask < 2 ^ 30 → IsLastIn mask (bit / 5 + 1) → BeginsHouse bit
    → 1 * 2 ^ bit % 2 ^ 64 ≡ 32 ^ (bit / 5 + 1 - 1)
last_is_power {mask} {bit} small last begins =
    let q = bit / 5 in
    let at : 5 * q ≡ bit = omega (arith, begins.whole) in
    let power : 2 ^ bit ≡ 32 ^ q = rw at at (pow_five q) in
    let down : q + 1 - 1 ≡ q = omega arith in
    rw down (omega (arith, rw down at last.low))

-- the others are a set still
mask_without_last : {mask h : ℕ} → IsMask mask → IsLastIn mask h → IsMask (without_house mask h)
mask_without_last {mask} {h} marked last = grind (arith, cases_eq, highest_cell_falls, other_cells_kept)

-- a set that isn't empty, by the leading zeros of its mask: its last house, and what is left without it
pub record HasLast (mask leading : ℕ) : Type 0 where
  pub begins : BeginsHouse (63 - leading)
  pub last : IsLastIn mask ((63 - leading) / 5 + 1)
  pub power : 1 * 2 ^ (63 - leading) % 2 ^ 64 ≡ 32 ^ ((63 - leading) / 5 + 1 - 1)
  pub rest : IsMask (without_house mask ((63 - leading) / 5 + 1))

pub last_of_mask : {mask leading : ℕ} → mask ≢ 0 → IsMask mask → leading ≡ count_leading_zeros 64 mask → HasLast mask leading
last_of_mask {mask} some are leading_are =
    let positive : 0 < mask = omega arith in
    let begins = last_begins_house positive are leading_are in
    let last = last_by_zeros positive are.small leading_are in
    record { begins = begins; last = last; power = last_is_power are.small last begins; rest = mask_without_last are last }

-- ==== Cells that hold something

-- a cell holds something if and only if its top bit is set in it, or once fifteen is added to its four low bits
top_bit_of_filled : (x : ℕ) → x < 32 → bit_or (bit_and x 15 + 15) x / 16 ≡ min 1 x
top_bit_of_filled x small = elim (cases_eq x 0) [
  | inl none ↦ rw none refl
  | inr some ↦
      let low = and_mask x 4 in
      let most = or_lt 5 (bit_and x 15 + 15) x (omega arith) small in
      omega (arith, le_or_l, le_or_r)
]

-- d in each of the first k cells
abbrev each : ℕ → ℕ → ℕ
each zero d = 0
each (suc k) d = each k d * 32 + d

-- the mask of the first k cells that hold something
abbrev filled_cells : ℕ → ℕ → ℕ
filled_cells k row = bit_and (bit_or (bit_and row (each k 15) + each k 15) row / 16) (each k 1)

-- a cell put in front stands in front in the mask
filled_cells-front : (k x rest : ℕ) → x < 32 → filled_cells (suc k) (rest * 32 + x) ≡ filled_cells k rest * 32 + min 1 x
filled_cells-front k x rest small =
    let fifteens = each k 15 in
    let low = bit_and x 15 in
    let high = bit_and rest fifteens in
    let low_is = and_le_r x 15 in
    let both = and_block 5 rest fifteens x 15 small (omega arith) in
    let added : high * 32 + low + (fifteens * 32 + 15) ≡ (high + fifteens) * 32 + (low + 15) = omega arith in
    let first = bit_or (low + 15) x in
    let others = bit_or (high + fifteens) rest in
    let first_small = or_lt 5 (low + 15) x (omega arith) small in
    let either = or_block 5 (high + fifteens) rest (low + 15) x (omega arith) small in
    let halved : (others * 32 + first) / 16 ≡ others / 16 * 32 + (others % 16 * 2 + first / 16) = omega arith in
    let mask = and_block 5 (others / 16) (each k 1) (others % 16 * 2 + first / 16) 1 (omega arith) (omega arith) in
    let one = top_bit_of_filled _ small in
    let last : (others % 16 * 2 + first / 16) % 2 ≡ min 1 x = omega arith in
    rw (both, added, either, halved, mask, and_mask (others % 16 * 2 + first / 16) 1, last) refl

-- the mask of one cell more
filled_cells-suc : (k row : ℕ) → filled_cells (suc k) row ≡ filled_cells k (row / 32) * 32 + min 1 (row % 32)
filled_cells-suc k row =
    let parts : row ≡ row / 32 * 32 + row % 32 = omega arith in
    ap (λ n. filled_cells (suc k) n) parts ∙ filled_cells-front _ _ _ (omega arith)

-- it has each of them that holds something
cell_of_filled : (k row i : ℕ) → i < k → cell (filled_cells k row) i ≡ min 1 (cell row i)
cell_of_filled zero row i inside = omega arith
cell_of_filled (suc k) row zero inside = omega (arith, filled_cells-suc)
cell_of_filled (suc k) row (suc i) inside =
    let rest : filled_cells (suc k) row / 32 ≡ filled_cells k (row / 32) = omega (arith, filled_cells-suc k row) in
    ap (λ n. cell n i) rest ∙ cell_of_filled k _ i (omega arith)

-- of the first six cells it has those that hold something
pub mask_of_filled : (row : ℕ) → IsMaskOfFilled row (filled_cells 6 row)
mask_of_filled row =
    let small = and_le_r (bit_or (bit_and row (each 6 15) + each 6 15) row / 16) (each 6 1) in
    record { cells = cell_of_filled 6 row; are = mask_of_six (omega arith) (λ i inside. omega (arith, cell_of_filled 6 row i inside)) }

-- ==== Cells that hold the distance to the store

apart_or_equal : (x y : ℕ) → (0 < bit_xor (min 1 (bit_xor x y)) 1) ↔ (x ≡ y)
apart_or_equal x y = grind (arith, cases_eq, bit_xor, xor_self, min, xor_add_and, and_le_l, and_le_r)

-- the mask of a row of m cells, if that of those that don't hold their distance is given
module _ (row : ℕ) {m others mask : ℕ} (few : m ≤ 6) (others_are : IsMaskOfFilled (bit_xor row (all_into_store m)) others)
    (mask_is : mask ≡ bit_xor others (ones m)) where
  -- a cell is in it unless it is among the others
  cell_into_store : (i : ℕ) → i < 6 → cell mask i ≡ bit_xor (min 1 (bit_xor (cell row i) (cell (all_into_store m) i))) (cell (ones m) i)
  cell_into_store i inside = rw (mask_is, cell_xor, others_are.cells i inside, cell_xor) refl

  -- it has each cell that holds its distance
  ending_inside : (i : ℕ) → i < m → (0 < cell mask i) ↔ (cell row i + i ≡ m)
  ending_inside i inside = grind (arith, cell_into_store, cell_inside, apart_or_equal)

  -- it is the mask of the row
  pub mask_into_store : IsMaskIntoStore row m mask
  mask_into_store =
      let all_small : ones m ≤ 34636833 = ones_le m 6 few in
      record {
        inside = ending_inside;
        past = λ i inside past none. grind (arith, cell_into_store, cell_outside);
        are = mask_of_six (rw mask_is (xor_lt 30 others (ones m) others_are.are.small (omega arith)))
            (λ i inside. grind (arith, cases_lt, cell_inside, cell_outside, cell_into_store, xor_lt));
      }

-- ==== Sets of a player's houses

-- if a house is in the second of two sets only if it is in the first, it remains if it is in the first and not in the second
one_remaining : (first second : ℕ) → first ≤ 1 → second ≤ 1 → (0 < second → 0 < first)
    → (0 < bit_xor first second) ↔ ((0 < first) × ¬ (0 < second))
one_remaining first second single single' within = grind arith

-- from "X and not N" to "S and not E", if X is S, and N is "L and E", where S implies L
unless_both : {A X N S L E : Type 0} → A ↔ (X × ¬ N) → X ↔ S → N ↔ (L × E) → (S → L) → A ↔ (S × ¬ E)
unless_both a x n implied = (
  λ p. let q = a.0 p in (x.0 q.0, λ e. q.1 (n.1 (implied (x.0 q.0), e))),
  λ p. a.1 (x.1 p.0, λ m. p.1 (n.0 m).1),
)

module _ {a : HousesState} {row : ℕ} (limits : AreWithinLimits a) (row_is : row ≡ packed_row a.own) where
  own_cell : (i : ℕ) → cell row i ≡ slice_index a.own i
  own_cell i = rw row_is (cell_of_row a.own i (λ k. omega (arith, house_le_sum a.own k)))

  own_past : (i : ℕ) → length a.own ≤ i → slice_index a.own i ≡ 0
  own_past i past = simp (get_or_past)

  -- the last seed of a house falls into the store if its number of seeds equals its distance
  ends_at : (i : ℕ) → EndsDirectlyInStore a (i + 1) ↔ (slice_index a.own i + i ≡ length a.own)
  ends_at i = grind arith

  -- what is in the set has seeds
  pub in_filled : {filled : ℕ} → IsMaskOfFilled row filled → (i : ℕ) → (0 < cell filled i) ↔ (0 < slice_index a.own i)
  in_filled {filled} mask i = elim (cases_lt i 6) [
    | inl inside ↦ omega (arith, own_cell i, mask.cells i inside)
    | inr past ↦ omega (arith, cell_past 6 i filled mask.are.small past, own_past i (omega arith))
  ]

  module _ {m ending : ℕ} (side : m ≡ length a.own) (mask : IsMaskIntoStore row m ending) where
    -- what is in the set ends in the store
    pub in_mask_into_store : (i : ℕ) → (0 < cell ending i) ↔ ((i < length a.own) × EndsDirectlyInStore a (i + 1))
    in_mask_into_store i = elim (cases_lt i m) [
      | inl is_inside ↦
          let marked = mask.inside i is_inside in
          grind (arith, own_cell)
      | inr is_past ↦
          let none : cell ending i ≡ 0 = elim (cases_lt i 6) [
            | inl low ↦ mask.past i low is_past (own_cell i ∙ own_past i (omega arith))
            | inr high ↦ cell_past 6 i ending mask.are.small high
          ] in
          omega arith
    ]

    module _ {filled : ℕ} (with_seeds : IsMaskOfFilled row filled) where
      -- what is among the filled houses and not among those that end in the store has seeds and doesn't end there
      pub in_remaining : (i : ℕ) → (0 < cell (bit_xor filled ending) i) ↔ ((0 < slice_index a.own i) × ¬ EndsDirectlyInStore a (i + 1))
      in_remaining i =
          let seeds = in_filled with_seeds i in
          let ends = in_mask_into_store i in
          let has_seeds : 0 < cell ending i → 0 < cell filled i = λ marked.
          let distance = (ends_at i).0 (ends.0 marked).1 in
          let inside = (ends.0 marked).0 in
          seeds.1 (omega arith) in
          let one = one_remaining _ _ (with_seeds.are.single i) (mask.are.single i) has_seeds in
          let is_house : 0 < slice_index a.own i → i < length a.own = grind (arith, cases_lt, own_past) in
          unless_both (rw (cell_xor i filled ending) one) seeds ends is_house

      pub mask_of_remaining : IsMask (bit_xor filled ending)
      mask_of_remaining = mask_of_six (xor_lt 30 filled ending with_seeds.are.small mask.are.small) (λ i inside.
          omega (
            arith,
            cell_xor i filled ending,
            xor_lt 1 (cell filled i) (cell ending i) (omega (arith, with_seeds.are.single i)) (omega (arith, mask.are.single i)),
          ))

-- ==== The moves of the houses of a set

-- a house with seeds, counted from 0, may be moved while the game goes on
pub seeded_is_legal : {a : HousesState} (i : ℕ) → AreWithinLimits a → is_over (storeless a) ≡ false → 0 < get_or a.own i 0
    → IsLegal a (i + 1)
seeded_is_legal {a} i limits going some = elim (cases_lt i (length a.own)) [
  | inl inside ↦
      let at : i + 1 - 1 ≡ i = omega arith in
      holds_legal (storeless a) _ (record { first = omega arith; last = omega arith; some = rw at some }) going
  | inr past ↦ absurd (omega (arith, get_or_past a.own i 0 past))
]

-- each house that ends in the store may be moved
pub into_store_legal : {a : HousesState} (i : ℕ) → AreWithinLimits a → is_over (storeless a) ≡ false → i < length a.own
    → EndsDirectlyInStore a (i + 1) → IsLegal a (i + 1)
into_store_legal {a} i limits going inside ends =
    holds_legal (storeless a) (i + 1) (omega arith) going

-- what holds of each house of a set holds of those before the last
pub each_before_last : (P : ℕ → Type 0) {mask h : ℕ} → IsLastIn mask h → ((i : ℕ) → 0 < cell mask i → P (i + 1))
    → (i : ℕ) → 0 < cell (without_house mask h) i → P (i + 1)
each_before_last P {mask} {h} last each i some = each i (in_before mask h last i some)

-- what holds of each house of a set holds of the last one
pub each_at_last : (P : ℕ → Type 0) {mask h : ℕ} → IsLastIn mask h → ((i : ℕ) → 0 < cell mask i → P (i + 1)) → P h
each_at_last P {mask} {h} last each = grind (arith, last_is_in)

-- the houses of a set may all be moved
pub record AreMovable (a : HousesState) (mask : ℕ) : Type 0 where
  pub legal : (i : ℕ) → 0 < cell mask i → IsLegal a (i + 1)

-- the last of them
pub last_is_legal : {a : HousesState} {mask h : ℕ} → AreMovable a mask → IsLastIn mask h → IsLegal a h
last_is_legal movable last = each_at_last (Contains _) last movable.legal

-- the houses before the last may be moved
pub movable_before_last : {a : HousesState} {mask h : ℕ} → AreMovable a mask → IsLastIn mask h → AreMovable a (without_house mask h)
movable_before_last movable last = record { legal = each_before_last (Contains _) last movable.legal }

-- each house that may be moved and is not in the set has P
abbrev pub EachOutside : HousesState → ℕ → (ℕ → Type 0) → Type 0
EachOutside a mask P = (i : ℕ) → IsLegal a i → cell mask (i - 1) ≡ 0 → P i

-- if the last house of a set and each other one outside it have P, each outside it without its last house has P
pub each_outside_without_last : (a : HousesState) {mask h : ℕ} (P : ℕ → Type 0) → IsLastIn mask h → P h
    → ((i : ℕ) → IsLegal a i → i - 1 ≢ h - 1 → cell mask (i - 1) ≡ 0 → P i) → EachOutside a (without_house mask h) P
each_outside_without_last a {mask} {h} P last here each i legal outside = elim (cases_eq i h) [
  | inl same ↦ subst P (sym same) here
  | inr other ↦
      let first = (legal_holds (storeless a) legal).first in
      let place : i - 1 ≢ h - 1 = omega arith in
      each i legal place (outside_before mask h last (i - 1) place outside)
]
