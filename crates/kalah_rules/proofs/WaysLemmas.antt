-- The ways to play on: stores do not influence them, and how they are summed up.
use Rattle.std.proofs.Common.{zero, suc, ◌≡◌, ℕ, ◌+◌, ◌-◌, ◌*◌, ◌<◌, ◌≤◌, List, [], ◌∷◌, length, arith, ap, ◌∙◌, refl, sym, add-one, ◌++◌, lt-ltb, ◌^◌, append-nil, sum_by, Bool, true, false, filter, nat_lt, ◌==◌, if◌then◌else◌, le-ltb}
use Rattle.std.proofs.{lemmas.{List.Sums.{sum_by_push}, Bool.{cases_Bool}}, Math.Nat.{mul-le-mul_right, pow-succ', pow-le-pow_right}}
use Rattle.std.specs.List.{range_with_len}
use Rattle.kalah_rules.specs.{after, moves_again, seeds, side_length, is_over, houses_in, storeless, HousesState, swept, legal_houses, position_after, step_to, most_depth, most_houses, houses_step, houses_step_to, ways, ways_by, Over, Again, Turn, Position.{Position}, HousesStep.{HousesStep}}
use Rattle.kalah_rules.proofs.PlayLemmas.{sum-zeros, same_position, filter_range-suc, length-filter_range, with_store_seeds, after-store_seeds, storeless-store_seeds}

pub ways_none : (p : Position) → ways 0 p ≡ 1
unfolding ways
ways_none p = refl

-- the ways of one more move are those after each legal move
pub ways-suc : (n : ℕ) (p : Position) → ways (suc n) p ≡ sum_by (ways_by n p) (legal_houses p)
unfolding ways
ways-suc n p = refl

pub ways_over : (n : ℕ) (p : Position) → is_over p ≡ true → ways (n + 1) p ≡ 0
ways_over n p over = rw (add-one n) (ways-suc n p ∙ rw over refl)

-- the same sum, of numbers that are the same
sum_same : (f g : ℕ → ℕ) (xs : List ℕ) → ((x : ℕ) → f x ≡ g x) → sum_by f xs ≡ sum_by g xs
sum_same f g xs same = grind arith

-- ==== stores
-- a sweep keeps what was added
swept-store_seeds : (a b : ℕ) (q : Position) → swept (with_store_seeds a b q) ≡ with_store_seeds a b (swept q)
swept-store_seeds a b q = same_position refl (omega arith) refl (omega arith) refl

-- what was added stays after a step
step-store_seeds : (n a b : ℕ) (q : Position) (over again : Bool) → is_over q ≡ over
    → ((c d : ℕ) (p : Position) → ways n (with_store_seeds c d p) ≡ ways n p)
    → ways n (position_after (step_to (with_store_seeds a b q) again)) ≡ ways n (position_after (step_to q again))
step-store_seeds n a b q true again over_is same = rw over_is (ap (ways n) (swept-store_seeds a b q) ∙ same a b _)
step-store_seeds n a b q false true over_is same = rw over_is (same a b q)
step-store_seeds n a b q false false over_is same = rw over_is (same b a _)

-- stores do not influence the ways
ways-store_seeds : (n a b : ℕ) (p : Position) → ways n (with_store_seeds a b p) ≡ ways n p
ways-store_seeds zero a b p = simp (ways_none)
ways-store_seeds (suc n) a b p = ways-suc n _ ∙ sum_same _ _ (legal_houses p)
    (λ h. ap (λ (q : Position). ways n (position_after (step_to q (moves_again p h)))) (after-store_seeds a b p h)
    ∙ step-store_seeds n a b (after p h) _ _ refl (ways-store_seeds n)) ∙ sym (ways-suc n p)

-- the ways of a position are those of its houses
pub ways_of_houses : (n : ℕ) (p : Position) → ways n p ≡ ways n (storeless (houses_in p))
ways_of_houses n p = ap (ways n) (storeless-store_seeds p) ∙ ways-store_seeds n _ _ _

-- ==== steps on houses
-- the ways after a step
abbrev pub ways_from : ℕ → HousesStep → ℕ
ways_from n (Over own other) = if n == 0 then 1 else 0
ways_from n (Again gained a) = ways n (storeless a)
ways_from n (Turn gained a) = ways n (storeless a)

ways_swept : (n : ℕ) (q : Position) → ways n (swept q) ≡ (if n == 0 then 1 else 0)
ways_swept zero q = ways_none _
ways_swept (suc n) q = grind (arith, sum-zeros, ways-suc)

-- the ways after a step are those after the step of the houses
ways_step_to : (n : ℕ) (q : Position) (again : Bool)
    → ways n (position_after (step_to q again)) ≡ ways_from n (houses_step_to q again)
ways_step_to n q again = grind (arith, cases_Bool, ways_swept, ways_of_houses)

-- the ways after a move are those after the step of the houses
pub ways_by_step : (n : ℕ) (a : HousesState) (h : ℕ) {s t : HousesStep} → t ≡ houses_step a h → t ≡ s
    → ways_from n s ≡ ways_by n (storeless a) h
ways_by_step n a h step_is same = grind (arith, ways_step_to)

-- the ways after a move of a position are those of its houses
pub ways_by_of_houses : (n : ℕ) (p : Position) (h : ℕ) → ways_by n (storeless (houses_in p)) h ≡ ways_by n p h
ways_by_of_houses n p h =
    let a = p.own_store in
    let b = p.other_store in
    let q = storeless _ in
    sym (ap (λ (o : Position). ways_by n o h) (storeless-store_seeds p)
    ∙ ap (λ (o : Position). ways n (position_after (step_to o (moves_again q h)))) (after-store_seeds a b q h)
    ∙ step-store_seeds n a b (after q h) _ _ refl (ways-store_seeds n))

pub legal_few : (p : Position) → length (legal_houses p) ≤ side_length p
legal_few p = grind (arith, length-filter_range)

-- ==== house by house
-- the houses before house h that hold seeds
abbrev pub seeded_before : List ℕ → ℕ → List ℕ
seeded_before row h = filter (λ i. nat_lt 0 (seeds row i)) (range_with_len 1 (h - 1))

-- the houses before the next one are one more
seeded_next : (row : List ℕ) (h : ℕ) → 1 ≤ h
    → seeded_before row (h + 1) ≡ filter (λ i. nat_lt 0 (seeds row i)) (range_with_len 1 (h - 1 + 1))
seeded_next row h low = grind arith

-- a house that holds seeds is among them
seeded_more : (row : List ℕ) (h : ℕ) → 1 ≤ h → 0 < seeds row h → seeded_before row (h + 1) ≡ seeded_before row h ++ h ∷ []
seeded_more row h low some = seeded_next row h low ∙ filter_range-suc _ 1 (h - 1) h (omega arith) ∙ rw (lt-ltb _ _ some) refl

-- an empty house is not
seeded_same : (row : List ℕ) (h : ℕ) → 1 ≤ h → seeds row h ≤ 0 → seeded_before row (h + 1) ≡ seeded_before row h
seeded_same row h low none = seeded_next row h low ∙ filter_range-suc _ 1 (h - 1) h (omega arith) ∙ rw (le-ltb _ _ none) (append-nil _)

-- ==== one house more
-- the ways after the moves of the houses before house h, for n moves more, at most 6 for each of these moves
pub record AreWaysBefore (n : ℕ) (p : Position) (h : ℕ) (total : ℕ) : Type 0 where
  pub sum : total ≡ sum_by (ways_by n p) (seeded_before p.own h)
  pub small : total ≤ (h - 1) * most_houses ^ n

-- a power of six more
six_more : (n h : ℕ) → 1 ≤ h → (h + 1 - 1) * most_houses ^ n ≡ (h - 1) * most_houses ^ n + most_houses ^ n
six_more n h low =
    let suc_of : h + 1 - 1 ≡ suc (h - 1) = omega arith in
    rw suc_of omega arith

-- a house with seeds adds the ways after its move
pub before_more : {n : ℕ} {p : Position} {h total : ℕ} (count : ℕ) → AreWaysBefore n p h total → 1 ≤ h → 0 < seeds p.own h
    → count ≡ ways_by n p h → count ≤ most_houses ^ n → AreWaysBefore n p (h + 1) (total + count)
before_more {n} {p} {h} count before low some count_is few = grind (arith, sum_by_push, seeded_more, six_more)

-- an empty house adds none
pub before_same : {n : ℕ} {p : Position} {h total : ℕ} → AreWaysBefore n p h total → 1 ≤ h → seeds p.own h ≤ 0
    → AreWaysBefore n p (h + 1) total
before_same {n} {p} {h} before low none = grind (arith, seeded_same)

-- after the last house they are all ways
pub before_all : {n : ℕ} {p : Position} {h total : ℕ} → AreWaysBefore n p h total → is_over p ≡ false → h ≡ side_length p + 1
    → total ≡ ways (n + 1) p
before_all {n} {p} {h} before going end = rw (add-one n) (grind (arith, ways-suc))

-- a sum of at most six powers of six is at most the next one
pub before_small : {n : ℕ} {p : Position} {h total : ℕ} → AreWaysBefore n p h total → h ≤ 7 → total ≤ most_houses ^ (n + 1)
before_small {n} {p} {h} before few =
    let six : h - 1 ≤ 6 = omega arith in
    let times = mul-le-mul_right (most_houses ^ n) six in
    let power : most_houses ^ (n + 1) ≡ 6 * most_houses ^ n = rw (add-one n) (pow-succ' 6 n) in
    omega arith

-- for less than 20 moves that power fits into 64 bits
pub power_fits : (n : ℕ) → n < most_depth → most_houses ^ (n + 1) ≤ 6 ^ 20
power_fits n below = grind (arith, pow-le-pow_right)
