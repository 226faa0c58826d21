-- Moves, house by house: how seeds are sown and captured, which moves there are, and how each nears the end.
use Rattle.std.proofs.Common.{get_or, zero, suc, ◌≡◌, ◌≢◌, ℕ, ◌+◌, ◌-◌, ◌*◌, ◌<◌, ◌≤◌, inl, inr, List, [], ◌∷◌, zero-le, length}
use Rattle.std.proofs.Common.{replicate, arith, ap, ◌∙◌, refl, ◌/◌, ◌%◌, ◌⊎◌, sym, add-one, ◌++◌, eq-eqb, lt-ltb, slice_set, slice_index}
use Rattle.std.proofs.Common.{sum, sum_by, Bool, true, false, cond, Option, Some, None, find, filter, Contains, All, nat_lt, length-set}
use Rattle.std.proofs.Common.{mod-eq_of_lt}
use Rattle.std.proofs.lemmas.{Nat.{mul-le}, Bool.{cases_eq, cases_lt, cond_both, ltb-true, ne_eqb}}
use Rattle.std.proofs.lemmas.List.{get_or_past, set_past, get_or-set_same, get_or-set_other}
use Rattle.std.proofs.lemmas.List.Folds.{find_at, sum_by-replicate}
use Rattle.std.proofs.lemmas.List.Sums.{position_or_len_is, sum_by-set, sum_by-cons, length-filter, count_by-le-length}
use Rattle.std.proofs.lemmas.List.FromFn.{length-map-range_with_len, get_or-map-range_with_len, length-range_with_len}
use Rattle.std.proofs.lemmas.List.FromFn.{get_or-range_with_len}
use Rattle.std.proofs.lemmas.List.Elements.{filter-append, filter_passes, All-filter, All-contains, Contains-append_left}
use Rattle.std.proofs.lemmas.List.Elements.{Contains-append_right, Contains-push}
use Rattle.std.proofs.lemmas.{Option.{slice_get-get_or}, Grind.{same_number_lists}}
use Rattle.std.specs.List.{range_with_len}
use Rattle.kalah_rules.specs.{own_distance, gain, row_of, lap_length, store_distance, other_distance, sow, last_distance, last_house, sown, after, after_capture, with_capture, with_seed, lifted}
use Rattle.kalah_rules.specs.{HousesState, seeds, side_length, seeds_in_houses, is_over, houses_in, storeless, HasEqualSides, swapped, Cell, Own, Store, Other, distance, IsCellOf, HoldsSeeds, legal_houses, row_distance, distance_to_stores, IsNearerEnd, moves_left, position_after, Position.{Position}, declared.step.Step.{Step, TheVariants.{Again, Turn, Over}}}

-- ==== Numbers, sums and lists of them, as the sections below need them

-- sums over a range are equal if their terms are
sum_range_same : (f g : ℕ → ℕ) (a n : ℕ) → ((j : ℕ) → a ≤ j → f j ≡ g j)
    → sum_by f (range_with_len a n) ≡ sum_by g (range_with_len a n)
sum_range_same f g a zero same = refl
sum_range_same f g a (suc n) same =
    let rest = sum_range_same f g (a + 1) n (omega arith) in
    omega (arith, sum_by-cons)

-- a sum over a range whose term changes at one place
sum_range_change : (f g : ℕ → ℕ) (a n i : ℕ) → a ≤ i → i < a + n → ((j : ℕ) → a ≤ j → j ≢ i → f j ≡ g j)
    → sum_by f (range_with_len a n) + g i ≡ sum_by g (range_with_len a n) + f i
sum_range_change f g a zero i low high same = omega arith
sum_range_change f g a (suc n) i low high same =
    elim (cases_eq a i) [
      | inl e ↦
          let rest = sum_range_same f g (a + 1) n (omega arith) in
          rw (← e) (omega (arith, sum_by-cons))
      | inr ne ↦
          let rest = sum_range_change f g (a + 1) n i (omega arith) (omega arith) (omega arith) in
          omega (arith, sum_by-cons)
    ]

-- a list with one number set to 0 has that much less
pub sum-set_zero : (xs : List ℕ) (k : ℕ) → sum (slice_set xs k 0) + slice_index xs k ≡ sum xs
sum-set_zero xs k = grind (arith, sum_by-set, set_past, get_or_past)

-- a weighted sum is bounded if its first term and the rest are
distance_step : (fx r n x s : ℕ) {t sxs : ℕ} → t ≡ fx + r → fx ≤ x * n → r ≤ n * s → sxs ≡ x + s → t ≤ n * sxs
distance_step fx r n x s whole first rest sum_is = rw sum_is (omega arith)

-- past the first element an index counts in the rest
slice_index-cons : (x : ℕ) (xs : List ℕ) (a j : ℕ) → a + 1 ≤ j → slice_index (x ∷ xs) (j - a) ≡ slice_index xs (j - (a + 1))
slice_index-cons x xs a j low = grind arith

-- numbers times weights of at most n add up to at most n times their sum
distance_range_le : (row : List ℕ) (a n : ℕ) (w : ℕ → ℕ) → ((i : ℕ) → a ≤ i → w i ≤ n)
    → sum_by (λ i. slice_index row (i - a) * w i) (range_with_len a (length row)) ≤ n * sum row
distance_range_le [] a n w near = zero-le
distance_range_le (x ∷ xs) a n w near =
    let f : ℕ → ℕ = λ i. slice_index (x ∷ xs) (i - a) * w i in
    let start : a - a ≡ 0 = omega arith in
    let rest = sum_range_same f _ _ (length xs) (λ j j_low. ap (λ k. k * w j) (slice_index-cons x xs a j j_low)) in
    distance_step _ _ n x _ (sum_by-cons f a (range_with_len _ (length xs))) (rw start (mul-le x _ x n (omega arith) (omega arith)))
    (rw rest (distance_range_le xs _ n w (omega arith))) (sum_by-cons _ x xs)

-- the measure falls if s does, for w' up to m * s'
lower_by_seeds : (m w : ℕ) {s s' w' : ℕ} → s' < s → w' ≤ m * s' → s' * (m * s' + 1) + w' < s * (m * s + 1) + w
lower_by_seeds m w {s} {s'} fewer short =
    let grow : m * (s' + 1) + 1 ≤ m * s + 1 = omega (arith, mul-le m (s' + 1) m s (omega arith) (omega arith)) in
    let whole = mul-le (s' + 1) _ s _ (omega arith) grow in
    omega arith

pub sum-zeros : (n : ℕ) → sum (replicate n 0) ≡ 0
sum-zeros n = omega (arith, sum_by-replicate)

-- ==== Distances on a lap, and what one more seed adds

-- a count and its successor, in whole laps and the rest
div-mod-suc : (n k : ℕ) → 0 < n → ((k % n + 1 < n) × ((k + 1) % n ≡ k % n + 1) × ((k + 1) / n ≡ k / n)) ⊎
    ((k % n + 1 ≡ n) × ((k + 1) % n ≡ 0) × ((k + 1) / n ≡ k / n + 1))
div-mod-suc n k pos = grind arith

-- the seed after k seeds goes to the cell at distance k % n + 1, and to no other
gain_more : (n k d : ℕ) → 1 ≤ d → d ≤ n → d ≡ k % n + 1 → gain n (k + 1) d ≡ gain n k d + 1
gain_more n k d low high here = grind arith

gain_same : (n k d : ℕ) → 1 ≤ d → d ≤ n → d ≢ k % n + 1 → gain n (k + 1) d ≡ gain n k d
gain_same n k d low high elsewhere = grind (arith, div-mod-suc)

gain_none : (n d : ℕ) → 0 < n → 1 ≤ d → gain n 0 d ≡ 0
gain_none n d pos low = grind arith

pub own_distance_past : (m h i : ℕ) → h < i → own_distance m h i ≡ i - h
own_distance_past m h i past = grind arith

-- the distance of one that a lap comes back to
pub own_distance_back : (m h i : ℕ) → i ≤ h → own_distance m h i ≡ i + (2 * m + 1) - h
own_distance_back m h i back = grind arith

-- ==== Rows of houses, house by house: their length, the seeds of a house, and rows in which one house differs

-- positions with the same parts are the same
pub same_position : {p q : Position} → p.own ≡ q.own → p.own_store ≡ q.own_store → p.other ≡ q.other
    → p.other_store ≡ q.other_store → p.rule ≡ q.rule → p ≡ q
same_position a b c d e = grind arith

pub length-row_of : (n : ℕ) (f : ℕ → ℕ) → length (row_of n f) ≡ n
length-row_of n f = length-map-range_with_len f 1 n

seeds-row_of : (n : ℕ) (f : ℕ → ℕ) (i : ℕ) → 1 ≤ i → i ≤ n → seeds (row_of n f) i ≡ f i
seeds-row_of n f i low high = grind (arith, get_or-map-range_with_len)

-- two rows with the same seeds in each house
same_rows : (xs ys : List ℕ) → length xs ≡ length ys → ((i : ℕ) → 1 ≤ i → i ≤ length xs → seeds xs i ≡ seeds ys i)
    → xs ≡ ys
same_rows xs ys long each = same_number_lists xs ys long (λ k h.
    let low : 1 ≤ k + 1 = omega arith in
    let high : k + 1 ≤ length xs = omega arith in
    let at : k + 1 - 1 ≡ k = omega arith in
    rw at at (each _ low high))

-- the same for a row and the function that it is made of
pub same_as_row : (xs : List ℕ) (n : ℕ) (f : ℕ → ℕ) → length xs ≡ n
    → ((i : ℕ) → 1 ≤ i → i ≤ n → seeds xs i ≡ f i) → xs ≡ row_of n f
same_as_row xs n f long each = grind (arith, same_rows, length-row_of, seeds-row_of)

-- a house holds what is written to it
pub seeds-set_same : (xs : List ℕ) (i v : ℕ) → 1 ≤ i → i ≤ length xs → seeds (slice_set xs (i - 1) v) i ≡ v
seeds-set_same xs i v low high = get_or-set_same xs _ v 0 (omega arith)

-- each other house keeps its seeds
pub seeds-set_other : (xs : List ℕ) (i j v : ℕ) → 1 ≤ i → 1 ≤ j → j ≢ i → seeds (slice_set xs (i - 1) v) j ≡ seeds xs j
seeds-set_other xs i j v i_low j_low other = grind (arith, get_or-set_other)

-- the sum of a row changes by what one of its houses does
sum-slice_set : (xs : List ℕ) (i v : ℕ) → 1 ≤ i → i ≤ length xs → sum (slice_set xs (i - 1) v) + seeds xs i ≡ sum xs + v
sum-slice_set xs i v low high = grind (arith, sum_by-set)

-- two functions that agree on each house make the same row
pub row_of_same : (n : ℕ) (f g : ℕ → ℕ) → ((j : ℕ) → 1 ≤ j → j ≤ n → g j ≡ f j) → row_of n g ≡ row_of n f
row_of_same n f g each = same_as_row _ n f (length-row_of n g) (λ j low high. seeds-row_of n g j low high ∙ each j low high)

-- one seed more in house i
row_of_more : (n : ℕ) (f g : ℕ → ℕ) (i : ℕ) → 1 ≤ i → i ≤ n → g i ≡ f i + 1
    → ((j : ℕ) → 1 ≤ j → j ≤ n → j ≢ i → g j ≡ f j)
    → row_of n g ≡ slice_set (row_of n f) (i - 1) (seeds (row_of n f) i + 1)
row_of_more n f g i low high here others =
    let long : i ≤ length _ = omega (arith, length-row_of) in
    sym (same_as_row _ n g (length-set _ _ _ ∙ length-row_of n f) (λ j j_low j_high. elim (cases_eq j i) [
      | inl e ↦ rw e (seeds-set_same _ _ _ low long ∙ ap (λ x. x + 1) (seeds-row_of n f i low high) ∙ sym here)
      | inr ne ↦ seeds-set_other _ i j _ low j_low ne ∙ seeds-row_of n f j j_low j_high ∙ sym (others j j_low j_high ne)
    ]))

-- ==== Sowing one seed more, and what it keeps

-- the distance of an own house names it
module _ (m h : ℕ) (h_low : 1 ≤ h) (h_high : h ≤ m) where
  -- no two own houses have the same distance
  own_distance_apart : (i j : ℕ) → 1 ≤ i → i ≤ m → 1 ≤ j → j ≤ m → i ≢ j → own_distance m h i ≢ own_distance m h j
  own_distance_apart i j i_low i_high j_low j_high other = grind arith

  own_from_store : (i : ℕ) → 1 ≤ i → i ≤ m → own_distance m h i ≢ store_distance m h
  own_from_store i low high = grind arith

  -- none has that of a house of the opponent
  own_from_other : (i j : ℕ) → 1 ≤ i → i ≤ m → 1 ≤ j → j ≤ m → own_distance m h i ≢ other_distance m h j
  own_from_other i j i_low i_high j_low j_high = grind arith

-- the formula of `sow`, over a fixed position and house
module _ (p : Position) (h : ℕ) (low : 1 ≤ h) (high : h ≤ side_length p) where
  -- nothing sown yet
  pub sow_none : length p.other ≡ side_length p → sow p h 0 ≡ lifted p h
  unfolding sow
  sow_none equal = same_position
      (sym (same_as_row _ _ _ (length-set p.own _ 0) (λ i i_low i_high.
      elim (cases_eq i h) [
        | inl here ↦
            let empty : seeds (slice_set p.own (h - 1) 0) i ≡ 0 = rw here (seeds-set_same p.own h 0 low high) in
            grind arith
        | inr there ↦
            let kept = seeds-set_other p.own h i 0 low i_low there in
            grind arith
      ])))
      (omega (arith, gain_none))
      (sym (same_as_row _ _ _ equal (λ j j_low j_high. omega (arith, gain_none))))
      refl refl

  -- a cell away from the next distance gets nothing
  gain_kept : (k : ℕ) {d : ℕ} → d ≡ k % lap_length (side_length p) + 1 → (cell : Cell) → IsCellOf (side_length p) cell
      → distance (side_length p) h cell ≢ d → gain (lap_length (side_length p)) (k + 1) (distance (side_length p) h cell)
      ≡ gain (lap_length (side_length p)) k (distance (side_length p) h cell)
  gain_kept k {d} next cell is_cell ne = grind (arith, gain_same)

  -- one seed more goes to the cell at the next distance
  pub sow_suc : (k : ℕ) (cell : Cell) → IsCellOf (side_length p) cell
      → distance (side_length p) h cell ≡ k % lap_length (side_length p) + 1 → sow p h (k + 1) ≡ with_seed (sow p h k) cell
  unfolding sow
  sow_suc k (Own i) is_cell next = same_position
      (row_of_more _ _ _ i is_cell.0 is_cell.1
      (omega (arith, gain_more))
      (λ j j_low j_high ne. omega
      (arith, gain_kept k next (Own j) (j_low, j_high) (own_distance_apart _ h low high j i j_low j_high is_cell.0 is_cell.1 ne))))
      (omega (arith, gain_kept k next Store tt (λ e. own_from_store _ h low high i is_cell.0 is_cell.1 (sym e))))
      (row_of_same _ _ _ (λ j j_low j_high. omega (
        arith,
        gain_kept k next (Other j) (j_low, j_high) (λ e. own_from_other _ h low high i j is_cell.0 is_cell.1 j_low j_high (sym e)),
      )))
      refl refl
  sow_suc k Store is_cell next = same_position
      (row_of_same _ _ _ (λ j j_low j_high. omega
      (arith, gain_kept k next (Own j) (j_low, j_high) (own_from_store _ h low high j j_low j_high))))
      (omega (arith, gain_more))
      (row_of_same _ _ _ (λ j j_low j_high. omega (arith, gain_kept k next (Other j) (j_low, j_high) (omega arith))))
      refl refl
  sow_suc k (Other i) is_cell next = same_position
      (row_of_same _ _ _ (λ j j_low j_high. omega
      (arith, gain_kept k next (Own j) (j_low, j_high) (own_from_other _ h low high j i j_low j_high is_cell.0 is_cell.1))))
      (omega (arith, gain_kept k next Store tt (omega arith)))
      (row_of_more _ _ _ i is_cell.0 is_cell.1
      (omega (arith, gain_more))
      (λ j j_low j_high ne. omega (arith, gain_kept k next (Other j) (j_low, j_high) (omega arith))))
      refl refl

-- some cell lies at each distance of a lap
cell_at : (m h d : ℕ) → 1 ≤ h → h ≤ m → 1 ≤ d → d ≤ lap_length m
    → (cell : Cell) × IsCellOf m cell × (distance m h cell ≡ d)
cell_at m h d low high d_low d_high = elim (cases_lt (m + 1 - h) d) [
  | inr near ↦ elim (cases_eq _ d) [
    | inl store ↦ (Store, tt, store)
    | inr before ↦ (Own (h + d), (omega arith), own_distance_past _ _ _ (omega arith) ∙ omega arith)
  ]
  | inl past ↦ elim (cases_lt (2 * m + 1 - h) d) [
    | inr near ↦ (Other (d - (m + 1 - h)), (omega arith), omega arith)
    | inl far ↦ (
      Own (d - (2 * m + 1 - h)),
      omega arith,
      own_distance_back _ _ _ (omega arith) ∙ omega arith,
    )
  ]
]

-- sowing keeps the number of houses of both sides
pub sow_side : (p : Position) (h k : ℕ) → (side_length (sow p h k) ≡ side_length p) × (length (sow p h k).other ≡ side_length p)
unfolding sow
sow_side p h k = omega (arith, length-row_of)

-- q has one seed more than p in its own store and houses together
pub record AddsOne (p q : Position) : Type 0 where
  pub houses : seeds_in_houses q ≤ seeds_in_houses p + 1
  pub play : q.own_store + seeds_in_houses q ≡ p.own_store + seeds_in_houses p + 1

-- one more seed in a cell is one more in the own store and the houses together
with_seed_adds : (p : Position) (cell : Cell) → length p.other ≡ side_length p → IsCellOf (side_length p) cell
    → AddsOne p (with_seed p cell)
with_seed_adds p cell equal is_cell = grind (arith, sum-slice_set)

-- the seeds of q, if k of the c lifted seeds of p were sown
pub record HasSown (p : Position) (c k : ℕ) (q : Position) : Type 0 where
  pub houses : seeds_in_houses q + c ≤ seeds_in_houses p + k
  pub play : q.own_store + seeds_in_houses q + c ≡ p.own_store + seeds_in_houses p + k

-- one seed more sown is one more in the own store and the houses together
sow_adds : (p : Position) (h : ℕ) → 1 ≤ h → h ≤ side_length p → (k : ℕ) → AddsOne (sow p h k) (sow p h (k + 1))
sow_adds p h low high k =
    let near : k % lap_length (side_length p) + 1 ≤ lap_length (side_length p) = grind arith in
    let next = cell_at (side_length p) h (k % lap_length (side_length p) + 1) low high (omega arith) near in
    let side = sow_side p h k in
    rw (sow_suc p h low high k next.0 next.1 next.2) (with_seed_adds _ _ (omega arith) (rw side.0 next.1))

-- sowing loses no seed
pub sow_keeps : (p : Position) (h : ℕ) → 1 ≤ h → h ≤ side_length p → length p.other ≡ side_length p → (k : ℕ)
    → HasSown p (seeds p.own h) k (sow p h k)
sow_keeps p h low high equal zero = grind (arith, sum-slice_set, sow_none)
sow_keeps p h low high equal (suc k) =
    let before = sow_keeps p h low high equal k in
    let adds = sow_adds p h low high k in
    let step : HasSown p (seeds p.own h) (k + 1) (sow p h (k + 1)) = omega arith in
    rw add-one at step

-- ==== The list of legal moves, and where the last seed falls

-- one number more at the end of a range
pub range-suc : (a n : ℕ) → range_with_len a (n + 1) ≡ range_with_len a n ++ (a + n) ∷ []
range-suc a zero = grind arith
range-suc a (suc n) = rw (add-one _)
    (ap (λ xs. a ∷ xs) (rw (add-one n) at (range-suc (a + 1) n) ∙ ap (λ x. range_with_len (a + 1) n ++ x ∷ []) (omega arith)))

-- the first number that passes is found
pub find_first : (f : ℕ → Bool) (xs : List ℕ) (i : ℕ) → i < length xs → ((k : ℕ) → k < i → f (get_or xs k 0) ≡ false)
    → f (get_or xs i 0) ≡ true → find f xs ≡ Some (get_or xs i 0)
find_first f xs i within fails here = grind (arith, find_at, position_or_len_is, slice_get-get_or)

-- the first number of a range that passes
find_in_range : (f : ℕ → Bool) (a n i : ℕ) → a ≤ i → i < a + n → f i ≡ true
    → ((j : ℕ) → a ≤ j → j < i → f j ≡ false) → find f (range_with_len a n) ≡ Some i
find_in_range f a n i low high here before =
    let at : get_or (range_with_len a n) (i - a) 0 ≡ i = omega (arith, get_or-range_with_len a n (i - a) 0 (omega arith)) in
    rw at at (find_first f (range_with_len a n) (i - a) (omega (arith, length-range_with_len))
    (λ k below. rw (get_or-range_with_len a n k 0 (omega arith)) (before (a + k) (omega arith) (omega arith))) (rw at here))

-- if none of a range passes, none is found
find_none : (f : ℕ → Bool) (a n : ℕ) → ((j : ℕ) → a ≤ j → j < a + n → f j ≡ false)
    → find f (range_with_len a n) ≡ None
find_none f a zero fails = refl
find_none f a (suc n) fails =
    rw (fails a (omega arith) (omega arith)) (find_none f (a + 1) n (λ j low high. fails j (omega arith) (omega arith)))

-- the house in which the last seed falls
pub last_house_own : {p : Position} {h i : ℕ} → HoldsSeeds p h → 1 ≤ i → i ≤ side_length p
    → own_distance (side_length p) h i ≡ last_distance p h → last_house p h ≡ Some i
last_house_own {p} {h} {i} holds low high distance_is = find_in_range _ 1 _ i low (omega arith) (eq-eqb _ _ distance_is)
    (λ j j_low j_high. ne_eqb _ _ (λ e.
    own_distance_apart _ h holds.first holds.last j i j_low (omega arith) low high (omega arith) (e ∙ sym distance_is)))

-- there is no last house if the last seed falls into the store
pub last_house_store : {p : Position} {h : ℕ} → HoldsSeeds p h → store_distance (side_length p) h ≡ last_distance p h
    → last_house p h ≡ None
last_house_store {p} {h} holds distance_is = grind (arith, find_none)

-- there is none if it falls into a house of the opponent
pub last_house_other : {p : Position} {h : ℕ} (i : ℕ) → HoldsSeeds p h → 1 ≤ i → i ≤ side_length p
    → other_distance (side_length p) h i ≡ last_distance p h → last_house p h ≡ None
last_house_other {p} {h} i holds low high distance_is = grind (arith, find_none)

-- the position after the move, by the place of the last seed
pub after_at : (p : Position) (h : ℕ) {o : Option ℕ} → last_house p h ≡ o → after_capture (sown p h) o ≡ after p h
unfolding after
after_at p h last_is = cc

-- a number of a range that passes is among those that pass
contains_range : (f : ℕ → Bool) (a n i : ℕ) → a ≤ i → i < a + n → f i ≡ true → Contains (filter f (range_with_len a n)) i
contains_range f a zero i low high here = absurd (omega arith)
contains_range f a (suc n) i low high here = elim (cases_eq a i) [
  | inl e ↦ rw (e, here) (Contains-append_left (i ∷ []) _ i (Contains-push [] i))
  | inr ne ↦
      let later = contains_range f (a + 1) n i (omega arith) (omega arith) here in
      cond_both (f a) _ _ (λ l. Contains l i) (λ kept. Contains-append_right (a ∷ []) _ i later) (λ dropped. later)
]

pub all_range : (a n : ℕ) → All (λ i. (a ≤ i) × (i < a + n)) (range_with_len a n)
all_range a n = omega (arith, length-range_with_len, get_or-range_with_len)

-- house h of houses without stores may be moved
abbrev pub IsLegal : HousesState → ℕ → Type 0
IsLegal a h = Contains (legal_houses (storeless a)) h

-- a game with a legal house isn't over
pub legal_going : (p : Position) (h : ℕ) → Contains (legal_houses p) h → is_over p ≡ false
legal_going p h legal = grind arith

pub legal_holds : (p : Position) {h : ℕ} → Contains (legal_houses p) h → HoldsSeeds p h
legal_holds p {h} legal =
    let kept = rw (legal_going p h legal) at legal in
    let InSide : ℕ → Type 0 = λ i. 1 ≤ i × i < 1 + side_length p in
    let seeded : ℕ → _ = λ i. nat_lt 0 _ in
    let houses = range_with_len 1 _ in
    let range = All-contains InSide _ h (All-filter _ InSide houses (all_range 1 _)) kept in
    let some = All-contains (λ i. seeded i ≡ true) _ h (filter_passes seeded houses) kept in
    record { first = range.0; last = omega arith; some = ltb-true 0 _ some }

-- a house that holds seeds is legal while the game goes on
pub holds_legal : (p : Position) (h : ℕ) → HoldsSeeds p h → is_over p ≡ false → Contains (legal_houses p) h
holds_legal p h holds going = rw going (contains_range _ 1 (side_length p) h holds.first (omega arith) (lt-ltb 0 _ holds.some))

-- one house more
pub filter_range-suc : (f : ℕ → Bool) (a n j : ℕ) → a + n ≡ j
    → filter f (range_with_len a (n + 1)) ≡ filter f (range_with_len a n) ++ cond (f j) (j ∷ []) []
filter_range-suc f a n j end_is = rw (range-suc a n, end_is) (filter-append f _ _)

-- no more numbers of a range pass than it has
pub length-filter_range : (f : ℕ → Bool) (a n : ℕ) → length (filter f (range_with_len a n)) ≤ n
length-filter_range f a n = omega (arith, length-filter, count_by-le-length, length-range_with_len)

-- ==== Stores do not influence a move

-- a and b more in the stores
abbrev pub with_store_seeds : ℕ → ℕ → Position → Position
with_store_seeds a b p = record p {
  own_store = p.own_store + a;
  other_store = p.other_store + b;
}

-- sowing keeps what was added
sow-store_seeds : (a b : ℕ) (p : Position) (h c : ℕ) → sow (with_store_seeds a b p) h c ≡ with_store_seeds a b (sow p h c)
unfolding sow
sow-store_seeds a b p h c = grind arith

-- a move keeps what was added
pub after-store_seeds : (a b : ℕ) (p : Position) (h : ℕ) → after (with_store_seeds a b p) h ≡ with_store_seeds a b (after p h)
unfolding after
after-store_seeds a b p h = grind (arith, sow-store_seeds)

-- a position is its houses, with what the stores hold added
pub storeless-store_seeds : (p : Position) → p ≡ with_store_seeds p.own_store p.other_store (storeless (houses_in p))
storeless-store_seeds p = grind arith

-- a move of a position is that of its houses
pub after_of_houses : (p : Position) (h : ℕ) → after p h ≡ with_store_seeds p.own_store p.other_store (after (storeless (houses_in p)) h)
after_of_houses p h = ap (λ q. after q h) (storeless-store_seeds p) ∙ after-store_seeds _ _ _ h

-- ==== Every move brings the game nearer to its end

-- a write to one house
row_distance-set : (row : List ℕ) (i v : ℕ) → 1 ≤ i → i ≤ length row
    → row_distance (slice_set row (i - 1) v) + seeds row i * (length row + 1 - i) ≡ row_distance row + v * (length row + 1 - i)
unfolding row_distance
row_distance-set row i v low high =
    let change = sum_range_change _ _ 1 (length row) i low (omega arith)
    (λ j j_low ne. ap (λ x. x * (length row + 1 - j)) (seeds-set_other row i j v low j_low ne)) in
    rw (length-set _ _ v) (change ∙ ap (λ x. row_distance row + x) (ap (λ x. x * _) (seeds-set_same _ _ _ low high)))

-- the own store after a sowing
sown_store : (p : Position) (h : ℕ)
    → (sown p h).own_store ≡ p.own_store + gain (lap_length (side_length p)) (seeds p.own h) (store_distance (side_length p) h)
unfolding sow
sown_store p h = refl

-- one more seed in a house adds its distance to the store
row_distance-more : (row : List ℕ) (i : ℕ) → 1 ≤ i → i ≤ length row
    → row_distance (slice_set row (i - 1) (seeds row i + 1)) ≡ row_distance row + (length row + 1 - i)
row_distance-more row i low high = omega (arith, row_distance-set)

-- the same for a position
distance-with_seed : (q : Position) (i : ℕ) → 1 ≤ i → i ≤ length q.own
    → distance_to_stores (with_seed q (Own i)) ≡ distance_to_stores q + (length q.own + 1 - i)
distance-with_seed q i low high = omega (arith, row_distance-more)

-- the cell of the next seed, while sowing has not reached the store
next_house_distance : (m h k : ℕ) → k + 1 + h ≤ m → own_distance m h (h + (k + 1)) ≡ k % lap_length m + 1
next_house_distance m h k near = grind (arith, mod-eq_of_lt)

-- a sowing brings its seeds nearer to the store, or leaves fewer in houses
module _ (p : Position) (h : ℕ) (holds : HoldsSeeds p h) (same : length p.other ≡ side_length p) where
  -- the next seed before the store adds its distance
  distance_grows : (k : ℕ) → k + 1 + h ≤ side_length p
      → distance_to_stores (sow p h (k + 1)) ≡ distance_to_stores (sow p h k) + (side_length p + 1 - (h + (k + 1)))
  distance_grows k near =
      let side = (sow_side p h k).0 in
      let low : 1 ≤ h + _ = omega arith in
      let high : h + _ ≤ side_length p = omega arith in
      let high' : h + _ ≤ length (sow p h k).own = omega arith in
      ap distance_to_stores (sow_suc p h holds.first holds.last k (Own _) (low, high) (next_house_distance _ h k near))
      ∙ distance-with_seed (sow p h k) _ low high' ∙ ap (λ x. distance_to_stores (sow p h k) + (x + 1 - (h + (k + 1)))) side

  -- k seeds sown before the store bring each nearer by one or more
  distance_falls : (k : ℕ) → k + h ≤ side_length p
      → distance_to_stores (sow p h k) + seeds p.own h * (side_length p + 1 - h) ≤ distance_to_stores p + k * (side_length p - h)
  distance_falls zero near = grind (arith, sow_none, row_distance-set)
  distance_falls (suc k) near = rw (← add-one k) (omega (arith, distance_falls k (omega arith), distance_grows k (omega arith)))

  -- if all seeds are sown before the store, the sum of the distances falls
  distance_falls_all : seeds p.own h + h ≤ side_length p → distance_to_stores (sown p h) < distance_to_stores p
  distance_falls_all near = grind (arith, distance_falls)

  -- a seed that reaches the store leaves fewer in houses
  houses_fall : side_length p < seeds p.own h + h → seeds_in_houses (sown p h) < seeds_in_houses p
  houses_fall far = grind (arith, sow_keeps, sown_store)

-- a capture leaves fewer seeds in houses
capture_leaves_fewer : (q : Position) (i : ℕ) → seeds q.own i ≡ 1 → seeds_in_houses (with_capture q i) < seeds_in_houses q
capture_leaves_fewer q i one = omega (arith, sum-set_zero)

-- where the last seed falls there are fewer seeds in houses, or nothing changes
captured_leaves_no_more : (q : Position) (o : Option ℕ)
    → (seeds_in_houses (after_capture q o) < seeds_in_houses q) ⊎ (after_capture q o ≡ q)
captured_leaves_no_more q o = grind (arith, capture_leaves_fewer)

-- a sowing brings the game nearer to its end
sown_nearer : (p : Position) (h : ℕ) → HoldsSeeds p h → length p.other ≡ side_length p → IsNearerEnd (sown p h) p
sown_nearer p h holds equal = grind (arith, houses_fall, sow_keeps, distance_falls_all)

-- a move brings the game nearer to its end
pub after_nearer : {p : Position} {h : ℕ} → HoldsSeeds p h → HasEqualSides p → IsNearerEnd (after p h) p
unfolding after
after_nearer {p} {h} holds equal = grind (arith, sown_nearer, captured_leaves_no_more)

-- a capture keeps the number of houses of both sides
capture_side : (q : Position) (o : Option ℕ)
    → (side_length (after_capture q o) ≡ side_length q) × (length (after_capture q o).other ≡ length q.other)
capture_side q o = grind (arith, length-set)

after_side : (p : Position) (h : ℕ) → side_length (after p h) ≡ side_length p
unfolding after
after_side p h = omega (arith, capture_side, sow_side)

pub after_equal_sides : (p : Position) (h : ℕ) → HasEqualSides (after p h)
unfolding after
after_equal_sides p h = omega (arith, capture_side, sow_side)

pub row_distance_le : (row : List ℕ) → row_distance row ≤ length row * sum row
unfolding row_distance
row_distance_le houses = distance_range_le houses 1 _ _ (omega arith)

-- the same for both rows
distance_below : (p : Position) → HasEqualSides p → distance_to_stores p ≤ side_length p * seeds_in_houses p
distance_below p equal = grind (arith, row_distance_le)

-- what is nearer to the end has fewer moves left
moves_left_falls : (p q : Position) → HasEqualSides q → side_length q ≡ side_length p → IsNearerEnd q p
    → moves_left q < moves_left p
moves_left_falls p q equal side (inl fewer) = rw side (lower_by_seeds _ (distance_to_stores p) fewer rw side at (distance_below q equal))
moves_left_falls p q equal side (inr near) = grind arith

-- the position after a move has fewer moves left
pub after_fewer : {p : Position} {h : ℕ} → HoldsSeeds p h → HasEqualSides p → moves_left (after p h) < moves_left p
after_fewer {p} {h} holds equal = moves_left_falls p _ (after_equal_sides p h) (after_side p h) (after_nearer holds equal)

-- as many moves are left to the opponent
pub moves_left-swapped : {p : Position} → HasEqualSides p → moves_left (swapped p) ≡ moves_left p
moves_left-swapped {p} equal = grind arith

-- ==== Where a step leads

-- the position after a step, in each case
pub after_step : (s : Step) (p : Position) → (s ≡ Again p) ⊎ ((s ≡ Turn p) ⊎ (s ≡ Over p)) → p ≡ position_after s
after_step s p led = grind arith
