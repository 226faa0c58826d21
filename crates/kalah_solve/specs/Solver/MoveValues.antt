-- What each move of a position is worth, in its numbers and by the strategies of best play.
use Rattle.std.specs.{Prelude.{◌≡◌, ℕ, zero, suc, ◌+◌, ◌-◌, ◌*◌, ◌/◌, ◌%◌, ◌==◌, ◌≤◌, if◌then◌else◌, false, List, [], ◌∷◌, All, map, find, option_map, unwrap_or, ℤ, pos, ◌+ℤ◌, ◌-ℤ◌}, Ordering.{int_eq}}
use Rattle.kalah_rules.specs.{Limits.{most_houses, most_in_play}, Position.{Position, HasEqualSides, IsMarginInRange, is_over}, Play.{legal_houses}}
use Rattle.kalah_solve.specs.{Bounds.Won.{nat_or_zero}, Solver.{Worth.{greatest, value_of_move}, BestPlay.{IsWorthOfMove}, Verdict.{verdict_of}}, declared.solver.{move_values.{MoveValue.{MoveValue}, TheConstants.{VALUE_COUNT, DIGIT_BASE}}, Verdict.{Verdict, TheVariants.{Best}}}}

-- house h, with the margin that its move gets in best play
abbrev pub move_value : Position → ℕ → MoveValue
move_value p h = record { house = h; value = value_of_move p h }

-- each legal house, in ascending order, with the value of its move; none if the game is over
abbrev pub values_of : Position → List MoveValue
values_of p = map (move_value p) (legal_houses p)

-- the houses are the legal ones, in ascending order, each with what its move gets in best play
pub record AreValuesByBestPlay (p : Position) (values : List MoveValue) : Type 0 where
  pub houses : map (λ v. v.house) values ≡ legal_houses p
  pub worth : All (λ v. IsWorthOfMove p v.house v.value) values

-- the greatest of the values, and the first house that has it
abbrev pub best_of : List MoveValue → Verdict
best_of values =
    let most = greatest (map (λ v. v.value) values) in
    Best most (unwrap_or (option_map (λ v. v.house) (find (λ v. int_eq v.value most) values)) 0)

-- ---- values in a number

-- the house and the value are such as a move can have
pub record IsMoveValue (v : MoveValue) : Type 0 where
  pub first : 1 ≤ v.house
  pub last : v.house ≤ most_houses
  pub small : IsMarginInRange v.value

-- a value as a digit: each house has one for each of its values, and the least value of house 1 has digit 1
abbrev pub digit_of : MoveValue → ℕ
digit_of v = VALUE_COUNT * (v.house - 1) + nat_or_zero (v.value +ℤ pos (most_in_play + 1))

-- the value with a digit
abbrev pub value_at : ℕ → MoveValue
value_at d = record { house = (d - 1) / VALUE_COUNT + 1; value = pos ((d - 1) % VALUE_COUNT) -ℤ pos most_in_play }

-- values as a number to the base `DIGIT_BASE`, the digit of the first one lowest
abbrev pub packed_values : List MoveValue → ℕ
packed_values [] = 0
packed_values (v ∷ vs) = digit_of v + DIGIT_BASE * packed_values vs

-- the values in the lowest n digits of a number
abbrev pub values_in : ℕ → ℕ → List MoveValue
values_in zero k = []
values_in (suc n) k = if k == 0 then [] else (value_at (k % DIGIT_BASE) ∷ values_in n (k / DIGIT_BASE))

-- the number is that of at most n values
abbrev pub ArePackedValues : ℕ → ℕ → Type 0
ArePackedValues n k = packed_values (values_in n k) ≡ k

-- ---- laws

-- the value of a move is what it gets in best play
abbrev pub ValueIsWorthOfMove : Type 0
ValueIsWorthOfMove = (p : Position) (h : ℕ) → IsWorthOfMove p h (value_of_move p h)

-- no other number is the value of a move
abbrev pub WorthOfMoveIsOne : Type 0
WorthOfMoveIsOne = (p : Position) (h : ℕ) (v w : ℤ) → IsWorthOfMove p h v → IsWorthOfMove p h w → v ≡ w

-- the greatest value and the first house that has it are the verdict
abbrev pub ValuesTellVerdict : Type 0
ValuesTellVerdict = (p : Position) → HasEqualSides p → is_over p ≡ false → best_of (values_of p) ≡ verdict_of p
