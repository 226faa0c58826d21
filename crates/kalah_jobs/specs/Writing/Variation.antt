-- How a variation is printed: a move, what it is worth, and the moves of best play after it.
use Rattle.std.specs.{Fmt.{signed_decimal}, Prelude.{ℕ, ℤ, List, [], ◌++◌, Option, None, Some, codes, decimal}}
use Rattle.kalah_jobs.specs.Types.{MoveValue}

-- `2  -4  2`: a house, the value of its move, and the house once more, as the first of the variation
abbrev pub variation_start : MoveValue → List ℕ
variation_start v = decimal v.house ++ (codes "  " ++ (signed_decimal v.value ++ (codes "  " ++ decimal v.house)))

-- ` 1`: a further house of it
abbrev pub next_house : ℕ → List ℕ
next_house house = codes " " ++ decimal house

-- ` -4`, or nothing: what a move or a position is worth, after a text
abbrev pub value_suffix : Option ℤ → List ℕ
value_suffix None = []
value_suffix (Some value) = codes " " ++ signed_decimal value
