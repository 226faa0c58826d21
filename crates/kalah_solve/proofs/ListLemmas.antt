-- What searches in lists find, and the greatest of some values.
use Rattle.std.proofs.Common.{zero, suc, ◌≡◌, ℕ, ◌+◌, ◌<◌, ◌≤◌, inl, inr, List, [], ◌∷◌, length, get_or, arith, sym, ◌∙◌, refl, Bool, true, Contains, map, filter, find, unwrap_or, ℤ, pos, ◌≤ℤ◌, ◌+ℤ◌, fold}
use Rattle.std.proofs.lemmas.{Bool.{cases_Bool}, Int.{fold-int_max_reached, ints, fold-int_max_bounds}, List.{length-map, get_or-map, Elements.{All-contains, All-filter, Contains-get_or}}}
use Rattle.std.specs.{List.{range_with_len}, Int.{int_max}}
use Rattle.lru.proofs.Splits.{Contains-head, Contains-tail, Contains-cons}
use Rattle.kalah_solve.specs.{greatest}
use Rattle.kalah_rules.proofs.PlayLemmas.{all_range}

-- ==== What a search in a list finds

-- what a search finds is in the list, and passes
pub find_passes : (t : ℕ → Bool) (xs : List ℕ) (k : ℕ) → Contains xs k → t k ≡ true
    → Contains xs (unwrap_or (find t xs) 0) × (t (unwrap_or (find t xs) 0) ≡ true)
find_passes t [] k member passes = absurd (omega arith)
find_passes t (x ∷ xs) k member passes = elim (cases_Bool (t x)) [
  | inl here ↦ rw here (Contains-head x xs, here)
  | inr later ↦ elim (Contains-cons x xs k member) [
    | inl same ↦ cc
    | inr rest ↦
        let found = find_passes t xs k rest passes in
        rw later (Contains-tail x xs _ found.0, found.1)
  ]
]

-- a number of a range that passes is no lower than its start
filter_low : (g : ℕ → Bool) (a n h : ℕ) → Contains (filter g (range_with_len a n)) h → a ≤ h
filter_low g a n h member =
    let InRange : ℕ → Type 0 = λ i. (a ≤ i) × (i < a + n) in
    (All-contains InRange _ h (All-filter g InRange (range_with_len a n) (all_range a n)) member).0

-- what a search finds in ascending numbers is the lowest that passes
pub find_lowest : (t g : ℕ → Bool) (a n h : ℕ) → Contains (filter g (range_with_len a n)) h → t h ≡ true
    → unwrap_or (find t (filter g (range_with_len a n))) 0 ≤ h
find_lowest t g a zero h member passes = omega arith
find_lowest t g a (suc n) h member passes = elim (cases_Bool (g a)) [
  | inl kept ↦
      let member' = rw kept at member in
      elim (cases_Bool (t a)) [
        | inl here ↦ rw (kept, here) (filter_low g a (suc n) h member)
        | inr later ↦ elim (Contains-cons a _ h member') [
          | inl same ↦ cc
          | inr rest ↦ rw (kept, later) (find_lowest t g (a + 1) n h rest passes)
        ]
      ]
  | inr dropped ↦ rw dropped (find_lowest t g (a + 1) n h (rw dropped at member) passes)
]

-- the same search by tests that agree
pub find_same : (p q : ℕ → Bool) (xs : List ℕ) → ((h : ℕ) → p h ≡ q h) → find p xs ≡ find q xs
find_same p q xs same = λ i. find (λ h. same h i) xs

-- ==== The greatest of some values

-- the greatest value is that of an element
pub greatest_reached : (f : ℕ → ℤ) (xs : List ℕ) → 0 < length xs → (k : ℕ) × Contains xs k × (f k ≡ greatest (map f xs))
greatest_reached f [] some = absurd (omega arith)
greatest_reached f (x ∷ xs) some = elim (fold-int_max_reached (f x) (map f xs) _ refl) [
  | inl start ↦ (x, Contains-head x xs, sym start)
  | inr later ↦
      let within : later.0 < length xs = omega (arith, length-map xs f) in (
        get_or xs _ 0,
        Contains-tail x xs _ (Contains-get_or xs _ 0 within),
        sym (get_or-map f xs _ 0 _ within) ∙ later.2,
      )
]

-- no value is above the greatest
pub greatest_is_most : (f : ℕ → ℤ) (xs : List ℕ) (k : ℕ) → k < length xs → f (get_or xs k 0) ≤ℤ greatest (map f xs)
greatest_is_most f [] k within = absurd (omega arith)
greatest_is_most f (x ∷ xs) zero within = (fold-int_max_bounds (f x) (map f xs) _ refl).0
greatest_is_most f (x ∷ xs) (suc k) within =
    rw (get_or-map f xs k 0 _ (omega arith)) at ((fold-int_max_bounds (f x) (map f xs) _ refl).1 k (pos 0) (omega (arith, length-map xs f)))

max_shift : (d x y : ℤ) → int_max (x +ℤ d) (y +ℤ d) ≡ int_max x y +ℤ d
max_shift d x y = grind (arith, ints)

-- the greatest of shifted numbers
fold_shift : (f g : ℕ → ℤ) (d x : ℤ) (xs : List ℕ) → ((h : ℕ) → f h ≡ g h +ℤ d)
    → fold int_max (x +ℤ d) (map f xs) ≡ fold int_max x (map g xs) +ℤ d
fold_shift f g d x [] same = refl
fold_shift f g d x (h ∷ hs) same = rw (same h, max_shift d x (g h)) (fold_shift f g d (int_max x (g h)) hs same)

-- the same for some values
pub greatest_shift : (f g : ℕ → ℤ) (d : ℤ) (xs : List ℕ) → 0 < length xs → ((h : ℕ) → f h ≡ g h +ℤ d)
    → greatest (map f xs) ≡ greatest (map g xs) +ℤ d
greatest_shift f g d [] some same = absurd (omega arith)
greatest_shift f g d (x ∷ xs) some same = rw (same x) (fold_shift f g d (g x) xs same)

-- ==== Lists by functions that agree

-- the same list if two functions agree on each element
pub map_same : (f g : ℕ → ℤ) (xs : List ℕ) → ((h : ℕ) → Contains xs h → f h ≡ g h) → map f xs ≡ map g xs
map_same f g [] same = refl
map_same f g (x ∷ xs) same =
    let first = same x (Contains-head x xs) in
    let rest = map_same f g xs (λ h member. same h (Contains-tail x xs h member)) in
    cc rest
