-- A desk and a pass, as contracts see them.
use Rattle.std.specs.Prelude.{◌≡◌, ℕ, ◌<◌, List, [], length, false, slice_index_or, map}
use Rattle.atomic_table.specs.Seated.{TableId}
use Rattle.kalah_run.specs.{Types.{DrawnRow, DeskView}, declared.desk.protocol.DeskView.TheVariants.{Drawing}, Desk.Rows.{drawn_row}}

-- the identity of the desk, the total, and the number of passes
pub record DeskState : Type 0 where
  pub id : TableId
  pub total : ℕ
  pub passes : ℕ

-- the desk of the pass, with its total; the pass's number, and its row
pub record PassState : Type 0 where
  pub desk : TableId
  pub total : ℕ
  pub number : ℕ
  pub row : DrawnRow

-- the pass is of this desk
abbrev pub IsPassAt : DeskState → PassState → Type 0
IsPassAt desk pass = (pass.desk ≡ desk.id) × (pass.total ≡ desk.total)

-- a pass that has drawn nothing, and is not spent
abbrev pub new_pass : DeskState → ℕ → PassState
new_pass desk number = record { desk = desk.id; total = desk.total; number = number; row = drawn_row [] false }

-- the first passes of the desk, each with its number
abbrev pub AreNewPasses : DeskState → ℕ → List PassState → Type 0
AreNewPasses desk count passes = (length passes ≡ count) × ((k : ℕ) (d : PassState) → k < count
    → slice_index_or passes k d ≡ new_pass desk k)

-- the rows, pass by pass
abbrev pub drawn_rows : List PassState → List DrawnRow
drawn_rows passes = map (λ p. p.row) passes

-- the total that a pass's seat knows
abbrev pub total_in : DeskView → ℕ
total_in (Drawing total number r) = total
total_in _ = 0

-- the pass's number
abbrev pub number_in : DeskView → ℕ
number_in (Drawing total number r) = number
number_in _ = 0

-- the pass's row
abbrev pub row_in : DeskView → DrawnRow
row_in (Drawing total number r) = r
row_in _ = drawn_row [] false

-- the view of a pass with these three
abbrev pub as_pass_view : DeskView → DeskView
as_pass_view v = Drawing (total_in v) (number_in v) (row_in v)
