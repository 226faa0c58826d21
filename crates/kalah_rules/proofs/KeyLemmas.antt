-- Rows as numbers, and what a key determines of its houses.
use Rattle.std.proofs.Common.{zero, suc, ◌≡◌, ℕ, ◌+◌, ◌-◌, ◌*◌, ◌/◌, ◌%◌, ◌^◌, ◌<◌, ◌≤◌, inl, inr, List, [], ◌∷◌, ◌++◌, length, get_or}
use Rattle.std.proofs.Common.{arith, ap, sym, ◌∙◌, refl, subst, add-one, take, drop, replicate, rules, Option, Some, None, length-take-le}
use Rattle.std.proofs.Common.{length-append, slice_set, sum, nat_lt, min, if◌then◌else◌, ◌==◌, nat_eq, All, IsSome, IfSome, ◌↔◌, length-set, lit≤}
use Rattle.std.proofs.lemmas.Nat.{pow-add, mul-le}
use Rattle.std.proofs.lemmas.List.{map_push, length-drop, length-replicate, get_or-replicate, take-append-drop}
use Rattle.std.proofs.lemmas.List.{Sums.{sum_by-cons, sum_by-append}, Folds.{sum_by-replicate}, Elements.{All-replicate}}
use Rattle.std.proofs.lemmas.{Bool.{cases_eq}, Grind.{same_number_lists}}
use Rattle.std.proofs.Math.{Pow.{field, mod-mod-pow}, Nat.{pow-succ', pow-le-pow_right, mul_assoc, div-div-eq-div-mul}, Seq.{take-append_seam, drop-append_seam}}
use Rattle.kalah_rules.specs.{seeds, HousesState, AreWithinLimits, total_seeds, without_seeds, row_of, lap_length, gain, own_distance, other_distance, padded, houses_from, CanBeHouses}
use Rattle.kalah_rules.specs.{packed_row, cells, rule_bit, packed_rows, key_of, variant_of, side_in_key, houses_in_key, IsKey, ones, up_to, houses_of_fields, AreFieldsOf, AreFields, AreRowFields, own_gains, other_gains, store_gains, declared.{rule.Rule.{Rule}, houses.numbers.TheConstants.{MOST_LAPS, ONE_EACH}}}
use Rattle.kalah_rules.proofs.PlayLemmas.{range-suc, length-row_of, same_as_row, row_of_same, seeds-set_same, seeds-set_other, sum-zeros}

-- ==== Rows as numbers: houses read and written, and rows of seeds added

pub pow_five : (k : ℕ) → 2 ^ (5 * k) ≡ 32 ^ k
pow_five zero = refl
pow_five (suc k) =
    let e : 5 * suc k ≡ 5 + 5 * k = omega arith in
    rw (e, pow-add, pow_five k) (omega arith)

pub pow_other : (k : ℕ) → 2 ^ (30 + 5 * k) ≡ 2 ^ 30 * 32 ^ k
pow_other k = simp (pow-add, pow_five)

-- an own house is read off both rows as off its own
pub own_house_of_rows : (rows k : ℕ) → k ≤ 5 → rows / 32 ^ k % 32 ≡ rows % 2 ^ 30 / 32 ^ k % 32
own_house_of_rows rows k few =
    let bits : 25 - 5 * k + 5 + 5 * k ≡ 30 = omega arith in
    let own = subst (λ n. rows % 2 ^ n / 2 ^ (5 * k) ≡ rows / 2 ^ (5 * k) % 2 ^ (25 - 5 * k + 5)) bits (field rows _ (5 * k)) in
    sym (ap (λ n. n % 32) (rw (pow_five k) at own) ∙ mod-mod-pow _ (25 - 5 * k) 5)

times_power : (k n : ℕ) → 32 ^ suc k * n ≡ 32 * (32 ^ k * n)
times_power k n = simp (pow-succ', mul_assoc)

-- a row after another counts from its place
pub packed_row-append : (xs ys : List ℕ) → packed_row (xs ++ ys) ≡ packed_row xs + 32 ^ length xs * packed_row ys
packed_row-append [] ys = omega arith
packed_row-append (x ∷ xs) ys = omega (arith, packed_row-append xs ys, times_power)

-- a house is read off a row's number
pub read_seeds : (xs : List ℕ) (k : ℕ) → k < length xs → sum xs ≤ 31 → packed_row xs / 32 ^ k % 32 ≡ get_or xs k 0
read_seeds [] k inside few = omega arith
read_seeds (x ∷ xs) zero inside few = omega (arith, sum_by-cons)
read_seeds (x ∷ xs) (suc k) inside few =
    let high : (x + 32 * packed_row xs) / 32 ≡ packed_row xs = omega (arith, sum_by-cons) in
    let past : (x + 32 * packed_row xs) / 32 ^ suc k ≡ packed_row xs / 32 ^ k =
    rw (pow-succ', ← div-div-eq-div-mul _ 32 _, high) refl in
    rw past (read_seeds xs k (omega arith) (omega (arith, sum_by-cons)))

-- a house is written into a row's number
pub packed_row-set : (xs : List ℕ) (k v : ℕ) → k < length xs
    → packed_row (slice_set xs k v) + 32 ^ k * get_or xs k 0 ≡ packed_row xs + 32 ^ k * v
packed_row-set [] k v inside = omega arith
packed_row-set (x ∷ xs) zero v inside = omega arith
packed_row-set (x ∷ xs) (suc k) v inside = omega (arith, packed_row-set xs k v (omega arith), times_power)

-- ---- rows that are given house by house

-- one house more at the end
packed_row-suc : (n : ℕ) (f : ℕ → ℕ) → packed_row (row_of (suc n) f) ≡ packed_row (row_of n f) + 32 ^ n * f (suc n)
packed_row-suc n f =
    let more : packed_row (row_of (n + 1) f) ≡ packed_row (row_of n f) + 32 ^ n * f (n + 1) =
    grind (arith, range-suc, map_push, packed_row-append, length-row_of) in
    rw add-one at more

-- rows are added house by house
packed_row-plus : (n : ℕ) (f g : ℕ → ℕ)
    → packed_row (row_of n (λ i. f i + g i)) ≡ packed_row (row_of n f) + packed_row (row_of n g)
packed_row-plus zero f g = refl
packed_row-plus (suc n) f g =
    let before = packed_row-plus n f g in
    packed_row-suc n (λ i. f i + g i) ∙ omega (arith, packed_row-suc)

packed_row-same : (n q : ℕ) → packed_row (row_of n (λ i. q)) ≡ q * ones n
packed_row-same zero q = omega arith
packed_row-same (suc n) q =
    let before = packed_row-same n q in
    packed_row-suc n (λ i. q) ∙ omega arith ∙ sym (ap (λ z. q * z) (packed_row-suc n (λ i. 1)))

pub packed_row-all : (n x : ℕ) → n ≤ x → packed_row (row_of n (up_to x)) ≡ ones n
packed_row-all n x past = grind (arith, row_of_same)

pub packed_row-up_to : (n x : ℕ) → x ≤ n → packed_row (row_of n (up_to x)) ≡ ones x
packed_row-up_to zero x within = grind arith
packed_row-up_to (suc n) x within = elim (cases_eq x (suc n)) [
  | inl all ↦ packed_row-all (suc n) x (omega arith) ∙ ap (λ k. ones k) (sym all)
  | inr less ↦
      let past : up_to x (suc n) ≡ 0 = grind arith in
      let before = packed_row-up_to n x (omega arith) in
      packed_row-suc n (up_to x) ∙ rw past (omega arith)
]

pub ones_of_least : (x n : ℕ) → ones (min x n) ≡ packed_row (row_of n (up_to x))
ones_of_least x n = grind (arith, packed_row-up_to, packed_row-all)

-- a row whose house h is emptied
lifted_row : (xs : List ℕ) (h : ℕ) → 1 ≤ h → h ≤ length xs
    → row_of (length xs) (λ i. if i == h then 0 else seeds xs i) ≡ slice_set xs (h - 1) 0
lifted_row xs h low high = grind (arith, same_as_row, length-set, seeds-set_same, seeds-set_other)

-- the cells of the last lap, which begins past house h and has r seeds: it reaches a house after h at once, and one up to h on its way back
own_lap : (m h r i : ℕ) → 1 ≤ h → h ≤ m → r < lap_length m → 1 ≤ i → i ≤ m
    → up_to r (own_distance m h i) + up_to h i ≡ up_to (h + r) i + up_to (h + r - lap_length m) i
own_lap m h r i low high few i_low i_high = search rules

-- the same for the other houses
other_lap : (m h r j : ℕ) → 1 ≤ h → h ≤ m → 1 ≤ j → up_to r (other_distance m h j) ≡ up_to (h + r - (m + 1)) j
other_lap m h r j low high j_low = grind arith

-- ---- what a sowing adds

-- the own row after a sowing, by what was lifted and what it gains
pub own_sown : (xs : List ℕ) (h c : ℕ) → 1 ≤ h → h ≤ length xs → packed_row
    (row_of (length xs) (λ i. (if i == h then 0 else seeds xs i) + gain (lap_length (length xs)) c (own_distance (length xs) h i)))
    + 32 ^ (h - 1) * seeds xs h ≡ packed_row xs + own_gains (length xs) h c
own_sown xs h c low high =
    let plus = packed_row-plus (length xs) (λ i. if i == h then 0 else seeds xs i)
    (λ i. gain (lap_length (length xs)) c (own_distance (length xs) h i)) in
    let lifted = ap packed_row (lifted_row xs h low high) in
    let set = packed_row-set xs (h - 1) 0 (omega arith) in
    omega arith

-- what it adds to the other row
pub other_sown : (ys : List ℕ) (h c : ℕ)
    → packed_row (row_of (length ys) (λ j. seeds ys j + gain (lap_length (length ys)) c (other_distance (length ys) h j))) ≡ packed_row
    ys + other_gains (length ys) h c
other_sown ys h c =
    let plus = packed_row-plus (length ys) (seeds ys) (λ j. gain (lap_length (length ys)) c (other_distance (length ys) h j)) in
    let kept = ap packed_row (sym (same_as_row ys _ (seeds ys) refl (omega arith))) in
    omega arith

module _ (m h c : ℕ) (low : 1 ≤ h) (high : h ≤ m) where
  -- what the own row gains, and one seed more in each house up to the one that is emptied
  pub own_gain : own_gains m h c + ones h ≡ c / lap_length m * ones m + packed_row (row_of m (up_to (h + c % lap_length m))) + packed_row
      (row_of m (up_to (h + c % lap_length m - lap_length m)))
  own_gain =
      let q = c / lap_length m in
      let gains : ℕ → ℕ = λ i. gain (lap_length m) c (own_distance m h i) in
      let past = up_to (h + c % lap_length m) in
      let round = up_to (h + c % lap_length m - lap_length m) in
      let each = row_of_same m (λ i. q + past i + round i) (λ i. gains i + up_to h i) (λ i i_low i_high. omega (arith, own_lap)) in
      let left = packed_row-plus m gains (up_to h) in
      let first = packed_row-plus m (λ i. q) past in
      let second = packed_row-plus m (λ i. q + past i) round in
      let whole = packed_row-same m q in
      let until = packed_row-up_to _ _ high in
      let rows = ap packed_row each in
      omega arith

  -- what the other row gains
  pub other_gain : other_gains m h c ≡ c / lap_length m * ones m + packed_row (row_of m (up_to (h + c % lap_length m - (m + 1))))
  other_gain =
      let q = c / lap_length m in
      let gains : ℕ → ℕ = λ j. gain (lap_length m) c (other_distance m h j) in
      let past = up_to (h + c % lap_length m - (m + 1)) in
      let each = row_of_same m (λ j. q + past j) gains (λ j j_low j_high. omega (arith, other_lap)) in
      let first = packed_row-plus m (λ j. q) past in
      let whole = packed_row-same m q in
      let rows = ap packed_row each in
      omega arith

  -- what the store gains
  pub store_gain : store_gains m h c ≡ c / lap_length m + (if nat_lt m (h + c % lap_length m) then 1 else 0)
  store_gain = grind arith

pub ones_le : (a b : ℕ) → a ≤ b → ones a ≤ ones b
ones_le a zero fewer = grind arith
ones_le a (suc b) fewer = elim (cases_eq a (suc b)) [
  | inl same ↦ rw same (omega arith)
  | inr less ↦ let on = ones_le a b (omega arith) in omega (arith, packed_row-suc)
]

-- the seeds of a house, where they stand in its row, are below the end of the row
pub placed_small : (k x : ℕ) → k ≤ 5 → x < 32 → 32 ^ k * x < 2 ^ 30
placed_small k x place few = omega (arith, mul-le (32 ^ k) x (32 ^ 5) 31 (pow-le-pow_right (lit≤ tt) place) (omega arith))

pub moved_fits : (k x : ℕ) → k ≤ 5 → x < 2 ^ 30 → x * 32 ^ k % 2 ^ 64 ≡ 32 ^ k * x
moved_fits k x place few = omega (arith, mul-le (32 ^ k) x (32 ^ 5) (2 ^ 30) (pow-le-pow_right (lit≤ tt) place) (omega arith))

-- a few seeds moved past the own row fit sixty-four bits
pub moved_across_fits : (k x : ℕ) → k ≤ 5 → x < 32 → x * (2 ^ 30 * 32 ^ k) % 2 ^ 64 ≡ 2 ^ 30 * (32 ^ k * x)
moved_across_fits k x place few = omega (arith, placed_small k x place few)

-- the product of two bounded numbers is at most that of their bounds
pub product_small : (x y : ℕ) → x ≤ MOST_LAPS → y ≤ ONE_EACH → x * y ≤ MOST_LAPS * ONE_EACH
product_small x y x_few y_few = mul-le x y _ _ x_few y_few

-- few seeds make few laps, of at least three cells each
pub laps_few : (m c : ℕ) → 1 ≤ m → c < 32 → c / (2 * m + 1) ≤ MOST_LAPS
laps_few m c some few = grind (arith, mul-le)

pub up_to_past : (m h x : ℕ) → h ≤ m → h ≤ x → ones h ≤ packed_row (row_of m (up_to x))
up_to_past m h x within past = grind (arith, packed_row-up_to, ones_le, packed_row-all)

-- ==== Padded rows, cells of a key, and the houses that it determines

-- zeros past the houses are what a row is padded with
padded_from_zeros : (m : ℕ) (cells : List ℕ) → length cells ≡ 6 → m ≤ 6 → All (λ x. x ≡ 0) (drop m cells)
    → padded (take m cells) ≡ cells
padded_from_zeros m cells long high zeros =
    let past = same_number_lists _ _ (length-drop m _ ∙ omega (arith, length-replicate {A = ℕ} (6 - m) 0))
    (λ k h. let within : k < 6 - m = omega (arith, length-drop m cells) in
    zeros k 0 h ∙ sym (get_or-replicate _ k 0 0 within)) in
    rw (length-take-le m cells (omega arith), ← past) (take-append-drop m _)

packed_row-zeros : (n : ℕ) → packed_row (replicate n 0) ≡ 0
packed_row-zeros zero = refl
packed_row-zeros (suc n) = omega (arith, packed_row-zeros n)

-- empty houses at the end of a row do not count
packed_row-append_zeros : (xs : List ℕ) (n : ℕ) → packed_row (xs ++ replicate n 0) ≡ packed_row xs
packed_row-append_zeros xs n = rw (packed_row-append, packed_row-zeros) (omega arith)

-- the cells past the houses do not count
packed_row-shown : (m : ℕ) (cells : List ℕ) → padded (take m cells) ≡ cells → packed_row (take m cells) ≡ packed_row cells
packed_row-shown m cells same = grind (arith, packed_row-append_zeros)

packed_row-cells : (k : ℕ) → packed_row (cells 6 k) + 2 ^ 30 * (k / 2 ^ 30) ≡ k
packed_row-cells k = omega arith

pub length-cells : (n k : ℕ) → length (cells n k) ≡ n
length-cells zero k = refl
length-cells (suc n) k = omega (arith, length-cells n (k / 32))

pub ruleset cells_read = (length-cells)

-- the cells of a row's number are the row, with anything above it
cells-packed_row : (n : ℕ) (xs : List ℕ) (rest : ℕ) → length xs ≡ n → sum xs ≤ 31
    → cells n (packed_row xs + 32 ^ n * rest) ≡ xs
cells-packed_row zero [] rest long few = refl
cells-packed_row zero (x ∷ xs) rest long few = cc
cells-packed_row (suc n) [] rest long few = cc
cells-packed_row (suc n) (x ∷ xs) rest long few =
    let rest_few : sum xs ≤ 31 = omega (arith, sum_by-cons) in
    let rest_long : length xs ≡ n = omega arith in
    let power = times_power n rest in
    let low : (x + 32 * packed_row xs + 32 ^ suc n * rest) % 32 ≡ x = omega (arith, sum_by-cons) in
    let high : (x + 32 * packed_row xs + 32 ^ suc n * rest) / 32 ≡ packed_row xs + 32 ^ n * rest = omega (arith, sum_by-cons) in
    rw (low, high) (ap (λ ys. x ∷ ys) (cells-packed_row _ _ _ rest_long rest_few))

length-padded : (xs : List ℕ) → length xs ≤ 6 → length (padded xs) ≡ 6
length-padded xs few = rw (length-append, length-replicate) (omega arith)

sum-padded : (xs : List ℕ) → sum (padded xs) ≡ sum xs
sum-padded xs = rw (sum_by-append, sum_by-replicate) (omega arith)

take-padded : (xs : List ℕ) → take (length xs) (padded xs) ≡ xs
take-padded xs = take-append_seam xs _

drop-padded : (xs : List ℕ) → All (λ x. x ≡ 0) (drop (length xs) (padded xs))
drop-padded xs = rw (drop-append_seam xs _) (All-replicate (λ x. x ≡ 0) _ 0 refl)

-- what a key determines of its houses
pub record KeyHolds (a : HousesState) (k : ℕ) : Type 0 where
  pub own_cells : cells 6 k ≡ padded a.own
  pub other_cells : cells 6 (k / 2 ^ 30) ≡ padded a.other
  pub side : k / 2 ^ 60 % 8 ≡ length a.own
  pub rule : k / 2 ^ 63 ≡ rule_bit a.rule

-- a row with few seeds has a small number
pub packed_row-small : (n : ℕ) (xs : List ℕ) → length xs ≤ n → sum xs ≤ 31 → packed_row xs < 32 ^ n
packed_row-small zero [] long few = omega arith
packed_row-small zero (x ∷ xs) long few = omega arith
packed_row-small (suc n) [] long few = omega (arith, packed_row-small n [] (omega arith) few)
packed_row-small (suc n) (x ∷ xs) long few =
    let here = packed_row-small n xs (omega arith) (omega (arith, sum_by-cons)) in
    omega (arith, sum_by-cons)

pub rule_bit-small : (r : Rule) → rule_bit r ≤ 1
rule_bit-small r = grind arith

key_holds : {a : HousesState} {k : ℕ} → AreWithinLimits a → key_of a ≡ k → KeyHolds a k
key_holds {a} {k} limits key_is =
    let other_long : length a.other ≤ 6 = omega arith in
    let own_few : sum a.own ≤ 31 = omega arith in
    let other_few : sum a.other ≤ 31 = omega arith in
    let own_small = packed_row-small _ _ limits.at_most_six own_few in
    let other_small = packed_row-small _ _ other_long other_few in
    let own_same = packed_row-append_zeros a.own (6 - length a.own) in
    let other_same = packed_row-append_zeros a.other (6 - length a.other) in
    let own_number : k ≡ packed_row (padded a.own) + 32 ^ 6 * (packed_row a.other + 2 ^ 30 * length a.own + 2 ^ 33 * rule_bit a.rule) =
    omega arith in
    let other_number : k / 2 ^ 30 ≡ packed_row (padded a.other) + 32 ^ 6 * (length a.own + 8 * rule_bit a.rule) = omega arith in
    record {
      own_cells = rw own_number (cells-packed_row _ _ _ (length-padded _ limits.at_most_six) (omega (arith, sum-padded)));
      other_cells =
          rw other_number (cells-packed_row _ _ _ (length-padded _ other_long) (omega (arith, sum-padded)));
      side = omega arith;
      rule = omega arith;
    }

key_is_key : {a : HousesState} {k : ℕ} → AreWithinLimits a → key_of a ≡ k → IsKey k
key_is_key {a} limits key_is =
    let held = key_holds limits key_is in
    rw (held.side, held.own_cells, held.other_cells) (record {
      some_house = limits.some_house;
      at_most_six = limits.at_most_six;
      own_past = drop-padded a.own;
      other_past = rw (sym limits.same_side) (drop-padded a.other);
      few_seeds = omega (arith, sum-padded);
    })

rule_bit-injective : {r s : Rule} → rule_bit r ≡ rule_bit s → r ≡ s
rule_bit-injective {r} {s} same = grind arith

-- houses with the same parts are the same
same_houses_in : {a b : HousesState} → a.own ≡ b.own → a.other ≡ b.other → a.rule ≡ b.rule → a ≡ b
same_houses_in x y z = grind arith

-- the houses that have a key, by its parts
houses_of_key : {a : HousesState} {k : ℕ} {rule : Rule} → AreWithinLimits a → key_of a ≡ k → rule_bit rule ≡ k / 2 ^ 63
    → houses_from (side_in_key k) (cells 6 k) (cells 6 (k / 2 ^ 30)) rule ≡ a
houses_of_key {a} {k} {rule} limits key_is bit =
    let held = key_holds limits key_is in
    let other_shown : take (side_in_key k) (cells 6 (k / 2 ^ 30)) ≡ a.other =
    rw (held.side, held.other_cells, sym limits.same_side) (take-padded _) in
    same_houses_in (rw (held.side, held.own_cells) (take-padded _)) other_shown (rule_bit-injective (omega arith))

-- the parts of a key make the key
key_from_parts : {k side : ℕ} {own other : List ℕ} (rule : Rule) → packed_row own + 2 ^ 30 * (k / 2 ^ 30) ≡ k
    → packed_row other + 2 ^ 30 * (k / 2 ^ 30 / 2 ^ 30) ≡ k / 2 ^ 30 → padded (take side own) ≡ own
    → padded (take side other) ≡ other → length (take side own) ≡ side → side ≡ k / 2 ^ 60 % 8 → rule_bit rule ≡ k / 2 ^ 63
    → key_of (houses_from side own other rule) ≡ k
key_from_parts rule own_is other_is own_padded other_padded long side_is bit = omega (arith, packed_row-shown)

-- the key of the houses that a key holds
key_of_houses : {k : ℕ} (rule : Rule) → IsKey k → rule_bit rule ≡ k / 2 ^ 63
    → key_of (houses_from (side_in_key k) (cells 6 k) (cells 6 (k / 2 ^ 30)) rule) ≡ k
key_of_houses {k} rule is_key bit = search (rules, key_from_parts, packed_row-cells, padded_from_zeros)

houses_in_key_of : {a : HousesState} → AreWithinLimits a → houses_in_key (key_of a) ≡ a
houses_in_key_of {a} limits =
    let held = key_holds limits refl in
    let bit : key_of a / 2 ^ 63 ≤ 1 = omega (arith, rule_bit-small) in
    houses_of_key limits refl (grind arith)

pub key_fits : {b : HousesState} → AreWithinLimits b → key_of b < 2 ^ 64
key_fits {b} limits = grind (arith, packed_row-small)

-- the parts of the key of houses, with their number of seeds, are their fields
pub are_fields : {b : HousesState} {rows seeds variant : ℕ} → AreWithinLimits b → rows ≡ packed_rows b
    → seeds ≡ total_seeds b → variant ≡ variant_of b
    → AreFields rows seeds variant × (houses_of_fields rows variant ≡ b)
are_fields {b} {rows} {variant = variant} limits rows_are seeds_are variant_is =
    let key_is : rows + 2 ^ 60 * variant ≡ key_of b = omega arith in
    let same : houses_of_fields rows variant ≡ b = ap houses_in_key key_is ∙ houses_in_key_of limits in
    grind arith

-- the fields of some houses are those of the value that they stand for
pub fields_of : {a : HousesState} {rows seeds variant : ℕ} → AreFields rows seeds variant → houses_of_fields rows variant ≡ a
    → AreFieldsOf a rows seeds variant
fields_of fields view_is = rw view_is at fields

-- both rows fit sixty bits, the own row thirty
pub record AreRows (a : HousesState) (rows : ℕ) : Type 0 where
  pub fit : rows < 2 ^ 60
  pub own : packed_row a.own ≡ rows % 2 ^ 30
  pub other : packed_row a.other ≡ rows / 2 ^ 30

-- both rows are read off the field
pub rows_of_fields : {a : HousesState} {rows seeds variant : ℕ} → AreFieldsOf a rows seeds variant → AreRows a rows
rows_of_fields {a} fields = grind (arith, packed_row-small)

pub sum-zero : (xs : List ℕ) → packed_row xs ≡ 0 → sum xs ≡ 0
sum-zero [] none = refl
sum-zero (x ∷ xs) none = omega (arith, sum_by-cons, sum-zero xs (omega arith))

pub packed_row-zero : (xs : List ℕ) → sum xs ≡ 0 → packed_row xs ≡ 0
packed_row-zero [] none = refl
packed_row-zero (x ∷ xs) none = omega (arith, sum_by-cons, packed_row-zero xs (omega (arith, sum_by-cons)))

pub packed_row-is_zero : (xs : List ℕ) → nat_eq (packed_row xs) 0 ≡ nat_eq (sum xs) 0
packed_row-is_zero xs = grind (arith, packed_row-zero, sum-zero)

-- what `Houses::new` answers at the parts of a key
module _ (k : ℕ) (rule : Rule) (bit : rule_bit rule ≡ k / 2 ^ 63) where
  -- the parts of a key as houses
  abbrev parts : HousesState
  parts = houses_from (side_in_key k) (cells 6 k) (cells 6 (k / 2 ^ 30)) rule

  -- what is found has the key
  pub of_key_same : (o : Option HousesState) → (IsSome o ↔ IsKey k) → IfSome o (λ a. a ≡ parts) → IfSome o (λ a. key_of a ≡ k)
  of_key_same None valid value = tt
  of_key_same (Some a) valid value = ap key_of value ∙ key_of_houses _ (valid.0 (search rules)) bit

  -- the houses of a key are found
  pub of_key_found : (o : Option HousesState) → (IsSome o ↔ IsKey k) → IfSome o (λ a. a ≡ parts) → (a : HousesState)
      → AreWithinLimits a → key_of a ≡ k → o ≡ Some a
  of_key_found None valid value a limits key_is = grind (arith, key_is_key)
  of_key_found (Some b) valid value a limits key_is = ap Some (value ∙ houses_of_key limits key_is bit)

-- two values of houses with one key are one
pub key-injective : {a b : HousesState} → AreWithinLimits a → AreWithinLimits b → key_of a ≡ key_of b → a ≡ b
key-injective {a} {b} limits_a limits_b same =
    let bit = sym (key_holds limits_a same).rule in
    sym (houses_of_key limits_a same bit) ∙ houses_of_key limits_b refl bit

-- without seeds only the variant is left
pub fields_without_seeds : {a : HousesState} {rows seeds variant : ℕ} → AreFieldsOf a rows seeds variant
    → AreFields 0 0 variant × (houses_of_fields 0 variant ≡ without_seeds a)
fields_without_seeds {a} fields =
    let side = length-replicate {A = ℕ} (length a.own) 0 in
    let none = sum-zeros (length a.own) in
    are_fields (omega arith) (omega (arith, packed_row-zeros)) (omega arith) (omega (arith, fields.variant_is))

-- ==== The houses of one side in one number

-- a row's number has thirty bits
pub row_is_small : {count number seeds : ℕ} → AreRowFields count number seeds → number < 32 ^ 6
row_is_small {count} {number} {seeds} row = grind (arith, length-cells, packed_row-small)

-- ---- one house more

module _ {count number seeds : ℕ} (x : ℕ) (row : AreRowFields count number seeds) (few : seeds + x ≤ 31) where
  -- the houses so far
  abbrev pub houses : List ℕ
  houses = cells count number

  sum_more : sum (houses ++ x ∷ []) ≡ seeds + x
  sum_more = omega (arith, sum_by-append)

  number_more : packed_row (houses ++ x ∷ []) ≡ number + 32 ^ count * x
  number_more = rw (packed_row-append, length-cells) (omega arith)

  pub houses_pushed : cells (count + 1) (number + 32 ^ count * x) ≡ houses ++ x ∷ []
  houses_pushed =
      let long : length (houses ++ x ∷ []) ≡ count + 1 = omega (arith, length-append houses (x ∷ []), length-cells) in
      let same : packed_row (houses ++ x ∷ []) + 32 ^ (count + 1) * 0 ≡ number + 32 ^ count * x = omega (arith, number_more) in
      ap (cells _) (sym same) ∙ cells-packed_row _ _ _ long (omega (arith, sum_more))

  -- the fields of a row with one house more
  pub row_pushed : count < 6 → AreRowFields (count + 1) (number + 32 ^ count * x) (seeds + x)
  row_pushed room = grind (arith, houses_pushed, number_more, sum_more)

-- ---- two rows

-- the fields of two rows and a rule
pub fields_of_rows : {own other : List ℕ} {rule : Rule} {own_number other_number m variant seeds : ℕ} →
    AreWithinLimits (record { own = own; other = other; rule = rule }) →
    own_number ≡ packed_row own → other_number ≡ packed_row other → m ≡ length own → variant ≡ m + 8 * rule_bit rule
    → seeds ≡ sum own + sum other →
    AreFields (own_number + 2 ^ 30 * other_number) seeds variant
    × (houses_of_fields (own_number + 2 ^ 30 * other_number) variant ≡ record { own = own; other = other; rule = rule })
fields_of_rows limits own_is other_is m_is variant_is seeds_are = are_fields limits (omega arith) seeds_are (omega arith)

-- ==== Houses from six cells a row

-- the cells past the houses hold no seeds
pub sum-shown : (m : ℕ) (cells : List ℕ) → length cells ≡ 6 → m ≤ 6 → All (λ x. x ≡ 0) (drop m cells)
    → sum (take m cells) ≡ sum cells
sum-shown m cells long few none = let same = padded_from_zeros m cells long few none in grind (arith, sum-padded)

-- cells whose last ones hold no seeds can be houses exactly if their first ones are within the limits
pub can_be_houses : {m : ℕ} {own other : List ℕ} (rule : Rule) → m ≤ 6 → length own ≡ 6 → length other ≡ 6
    → All (λ x. x ≡ 0) (drop m own) → All (λ x. x ≡ 0) (drop m other)
    → AreWithinLimits (houses_from m own other rule) ↔ CanBeHouses m own other
can_be_houses {m} {own} {other} rule few own_long other_long own_past other_past = grind (arith, length-take-le, sum-shown)
