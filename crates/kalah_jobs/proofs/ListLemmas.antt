-- Lists of any elements: what of them passes a test, what stands at an index, and numbered elements.
use Rattle.std.proofs.{Common.{◌≡◌, ℕ, zero, suc, ◌+◌, ◌<◌, List, [], ◌∷◌, length, refl, arith, Bool, ap, cond, ◌++◌, map, ◌∙◌, sym, drop, Option, Some, None, sum_by, count_by, IsSome, sum, slice_get}, lemmas.{Bool.{false≢true}, List.{drop_more, Sums.{sum_by-cons, sum_by-append, sum-map}}, Option.{slice_get_within, get_or_from_slice_get}, Simd.{map-map}}}
use Rattle.std.specs.List.{flat_map, enumerate_from, onto_first}

-- a test counts one element more if it passes
pub count_by-cons : {X : Type 0} (p : X → Bool) (x : X) (xs : List X) → count_by p (x ∷ xs) ≡ cond (p x) 1 0 + count_by p xs
count_by-cons p x xs = sum_by-cons (λ y. cond (p y) 1 0) x xs

-- of the results of f as many pass a test as there are elements whose result does
pub count_map : {A X : Type 0} (p : X → Bool) (f : A → X) (xs : List A) → count_by p (map f xs) ≡ count_by (λ x. p (f x)) xs
count_map p f xs = sym (sum-map _ (map f xs)) ∙ ap sum (map-map _ f xs) ∙ sum-map _ xs

-- rows counted in one list
pub count_flat : {X : Type 0} (q : X → Bool) (rows : List (List X)) → count_by q (flat_map (λ r. r) rows) ≡ sum_by (count_by q) rows
count_flat q [] = refl
count_flat {X} q (r ∷ rs) = omega (
  arith,
  count_flat q rs,
  sum_by-cons (count_by q) r rs,
  sum_by-append (λ (x : X). cond (q x) 1 0) r (flat_map (λ (r : List X). r) rs),
)

-- an index within the first list finds its item
pub slice_get-append_left : {X : Type 0} (xs ys : List X) (i : ℕ) → i < length xs → slice_get (xs ++ ys) i ≡ slice_get xs i
slice_get-append_left (x ∷ xs) ys (suc i) low = slice_get-append_left xs ys i (omega arith)
slice_get-append_left xs ys i low = grind arith

-- an index past the first list finds an item of the second
pub slice_get-append_right : {X : Type 0} (xs ys : List X) (n i : ℕ) → n ≡ length xs + i → slice_get (xs ++ ys) n ≡ slice_get ys i
slice_get-append_right [] ys n i n_is = grind arith
slice_get-append_right (x ∷ xs) ys zero i n_is = grind arith
slice_get-append_right (x ∷ xs) ys (suc n) i n_is = slice_get-append_right xs ys n i (omega arith)

-- the items from place i on begin with the one at place i
pub items_from : {A : Type 0} (items : List A) (i : ℕ) (item : A) → slice_get items i ≡ Some item
    → drop i items ≡ item ∷ drop (i + 1) items
items_from items i item item_is =
    cc (drop_more items i item (slice_get_within items i item item_is), get_or_from_slice_get items i item item item_is)

-- a byte that goes to the first of some lines leaves those after them
pub onto_first-append : (byte : ℕ) (lines more : List (List ℕ)) → 0 < length lines
    → onto_first byte (lines ++ more) ≡ onto_first byte lines ++ more
onto_first-append byte [] more some = grind arith
onto_first-append byte (line ∷ lines) more some = refl

-- more lines are numbered on
pub enumerate_from-append : (number : ℕ) (lines more : List (List ℕ))
    → enumerate_from number (lines ++ more) ≡ enumerate_from number lines ++ enumerate_from (number + length lines) more
enumerate_from-append number [] more = grind arith
enumerate_from-append number (line ∷ lines) more =
    let e : number + 1 + length lines ≡ number + suc (length lines) = omega arith in
    simp (enumerate_from-append (number + 1) lines more, e)

-- the value of what is Some
pub some_value : {X : Type 0} (x : Option X) → IsSome x → (a : X) × (x ≡ Some a)
some_value None some = absurd (false≢true some)
some_value (Some a) some = (a, refl)
