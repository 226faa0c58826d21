-- Values of moves in one number, a digit each.
use Rattle.std.proofs.{Common.{List, zero, suc, ◌≡◌, ℕ, ◌<◌, ◌≤◌, inl, inr, ◌∷◌, length, arith, ap, refl, ◌+◌, ◌*◌, ◌/◌, ◌%◌, ◌^◌}, lemmas.{Bool.{cases_eq}, Int.{ints}}, Math.Nat.{pow-succ'}}
use Rattle.kalah_solve.specs.{IsMoveValue, digit_of, value_at, values_in, ArePackedValues, declared.solver.move_values.{MoveValue.{MoveValue}, TheConstants.{DIGIT_BASE}}}

-- ==== A value and its digit

-- a digit of the base other than 0, by which the value is found
record Finds (v : MoveValue) (digit : ℕ) : Type 0 where
  some : 1 ≤ digit
  small : digit < DIGIT_BASE
  value : value_at digit ≡ v

value_of_its_digit : (v : MoveValue) → IsMoveValue v → Finds v (digit_of v)
value_of_its_digit v small = grind (arith, ints)

digit_of_its_value : (d : ℕ) → 1 ≤ d → d < DIGIT_BASE → digit_of (value_at d) ≡ d
digit_of_its_value d some few = grind arith

-- ==== The values in a number, digit by digit

-- the value of the lowest digit, and those of the others
pub values_in-positive : (n k : ℕ) → 0 < k → values_in (suc n) k ≡ value_at (k % DIGIT_BASE) ∷ values_in n (k / DIGIT_BASE)
values_in-positive n k some = grind arith

-- the lowest digit of a packed number is that of a value, and the other digits are packed
pub rest_packed : (n k : ℕ) → 0 < k → ArePackedValues (suc n) k → (1 ≤ k % DIGIT_BASE) × ArePackedValues n (k / DIGIT_BASE)
rest_packed n k some packed = grind (arith, cases_eq, digit_of_its_value)

-- the digits past the last value are 0
pub values_in-one_digit_more : (n k : ℕ) → ArePackedValues n k → values_in (suc n) k ≡ values_in n k
values_in-one_digit_more zero k packed = rw (← packed) refl
values_in-one_digit_more (suc n) k packed = elim (cases_eq k 0) [
  | inl none ↦ rw none refl
  | inr other ↦
      let some : 0 < k = omega arith in
      rw (values_in-positive (suc n) k some, values_in-positive n k some)
      (ap (λ vs. value_at (k % DIGIT_BASE) ∷ vs) (values_in-one_digit_more n _ (rest_packed n k some packed).1))
]

-- fewer digits are enough for fewer values
values_in-fewer_digits : (n k : ℕ) → length (values_in (suc n) k) ≤ n → values_in n k ≡ values_in (suc n) k
values_in-fewer_digits zero k few = elim (cases_eq k 0) [
  | inl none ↦ rw none refl
  | inr other ↦
      absurd (omega (arith, ap length (values_in-positive 0 k (omega arith))))
]
values_in-fewer_digits (suc n) k few = elim (cases_eq k 0) [
  | inl none ↦ rw none refl
  | inr other ↦
      let some : 0 < k = omega arith in
      rw (values_in-positive (suc n) k some, values_in-positive n k some)
      (ap (λ vs. value_at (k % DIGIT_BASE) ∷ vs)
      (values_in-fewer_digits n _ (omega (arith, ap length (values_in-positive (suc n) k some)))))
]

-- a packed number with no value is 0
no_values_no_number : (n k : ℕ) → ArePackedValues n k → 0 < k → length (values_in n k) ≤ 0 → ⊥
no_values_no_number zero k packed some few = omega (arith, packed)
no_values_no_number (suc n) k packed some few = omega (arith, ap length (values_in-positive n k some))

-- few values make a small number
packed_le_power : (m n k : ℕ) → ArePackedValues n k → length (values_in n k) ≤ m → k < DIGIT_BASE ^ m
packed_le_power zero n k packed few = elim (cases_eq k 0) [
  | inl none ↦ omega arith
  | inr other ↦ absurd (no_values_no_number n k packed (omega arith) (omega arith))
]
packed_le_power (suc m) zero k packed few = rw pow-succ' (omega (arith, packed, packed_le_power m zero 0 refl (omega arith)))
packed_le_power (suc m) (suc n) k packed few = elim (cases_eq k 0) [
  | inl none ↦ rw pow-succ' (omega (arith, packed_le_power m zero 0 refl (omega arith)))
  | inr other ↦
      let some : 0 < k = omega arith in
      let rest = packed_le_power m n (k / DIGIT_BASE) (rest_packed n k some packed).1
      (omega (arith, ap length (values_in-positive n k some))) in
      rw pow-succ' (omega arith)
]

-- ==== A value in front of the others

-- one value more, in front of fewer than six
module _ {v : MoveValue} (k : ℕ) {vs : List MoveValue} (small : IsMoveValue v) (packed : ArePackedValues 6 k)
    (values_are : values_in 6 k ≡ vs)
    (room : length vs < 6) where
  pub values_prepended : values_in 6 (digit_of v + DIGIT_BASE * k) ≡ v ∷ vs
  values_prepended =
      let again = value_of_its_digit v small in
      let few : length (values_in 6 k) < 6 = rw values_are room in
      let low : (digit_of v + DIGIT_BASE * k) % DIGIT_BASE ≡ digit_of v = omega arith in
      let high : (digit_of v + DIGIT_BASE * k) / DIGIT_BASE ≡ k = omega arith in
      let fewer = values_in-fewer_digits 5 k (omega arith) in
      rw (values_in-positive 5 (digit_of v + DIGIT_BASE * k) (omega arith), low, high, again.value, fewer, values_are) refl

  pub packed_prepended : ArePackedValues 6 (digit_of v + DIGIT_BASE * k)
  packed_prepended = let number_is = rw values_are at packed in rw values_prepended (omega arith)

  pub fits_prepended : digit_of v + DIGIT_BASE * k < 2 ^ 64
  fits_prepended =
      let again = value_of_its_digit v small in
      let few = packed_le_power 5 6 k packed (rw values_are (omega arith)) in
      omega arith
