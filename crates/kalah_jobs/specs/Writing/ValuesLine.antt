-- A position as it is shown: its picture, and below it what each move is worth.
use Rattle.std.specs.{Fmt.{signed_decimal}, Prelude.{ℕ, ℤ, ◌+◌, ◌-◌, ◌≤◌, List, [], ◌∷◌, ◌++◌, All, if◌then◌else◌, codes, length, replicate, ⊤}}
use Rattle.kalah_rules.specs.Position.{Position, final_margin, is_over}
use Rattle.kalah_solve.specs.Solver.MoveValues.{IsMoveValue, values_of}
use Rattle.kalah_jobs.specs.{Files.Lines.{line_feed}, Line.Line.{space}, Types.{MoveValue}, Writing.Picture.{column_width, empty_columns, picture_of}}

-- a value at the right of a column, which it fills if it is less than -99
abbrev pub value_column : ℤ → List ℕ
value_column value = replicate (column_width - length (signed_decimal value)) space ++ signed_decimal value

-- the values of moves, each in the column of its house, where `filled` columns are filled already. Nothing follows the last value
abbrev pub value_columns : ℕ → List MoveValue → List ℕ
value_columns filled [] = []
value_columns filled (v ∷ vs) = empty_columns (v.house - filled) ++ (value_column v.value ++ value_columns (v.house + 1) vs)

-- `over, margin M`
abbrev pub over_text : ℤ → List ℕ
over_text margin = codes "over, margin " ++ signed_decimal margin

-- below a picture: the final margin of a game that is over, otherwise what each move is worth, below its house
abbrev pub values_line : Position → List ℕ
values_line p = if is_over p then over_text (final_margin p) else value_columns 0 (values_of p)

-- the picture, and that line
unfoldable pub shown_of : Position → List ℕ
shown_of p = picture_of p ++ (values_line p ++ line_feed ∷ [])

-- ---- values that have columns

-- the houses ascend, from `low` on
abbrev pub AscendFrom : ℕ → List MoveValue → Type 0
AscendFrom low [] = ⊤
AscendFrom low (v ∷ vs) = (low ≤ v.house) × AscendFrom (v.house + 1) vs

-- values and houses are ones that a game can have
abbrev pub AreMoveValues : List MoveValue → Type 0
AreMoveValues values = All IsMoveValue values
