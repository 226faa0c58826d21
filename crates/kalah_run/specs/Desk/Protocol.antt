-- What is kept of the desk's word and of the views of its seats, and what each step returns.
use Rattle.std.specs.{Prelude.{◌≡◌, ℕ, ◌+◌, ◌≤◌, List, [], ◌∷◌, length, sum_by, flat_map, ⊤, ◌-◌, ◌<◌, ◌++◌, true, false, nat_lt, All, MatchBool}, List.{range_with_len}}
use mathlib.Core.Option.{some}
use lib.ListN.{get_elem?}
use Rattle.atomic_table.specs.Table.{State, Me, Step}
use Rattle.kalah_jobs.specs.Limits.{most_lines}
use Rattle.kalah_run.specs.{Limits.{most_passes}, Types.{DrawnRow, DeskPlan, DeskView}, declared.desk.protocol.DeskView.TheVariants.{Opening, Drawing, Closing, Reclaimed}, Desk.Rows.{spent_in, DealsEachOnce, drawn_row}}

-- the first seat: all passes are yet to be handed out
abbrev pub opening_view : DeskPlan → DeskView
opening_view plan = Opening plan.total 0 plan.passes

-- the rows that a seat has
abbrev pub rows_in : DeskView → List DrawnRow
rows_in (Drawing total number r) = r ∷ []
rows_in (Closing rows) = rows
rows_in _ = []

-- the rows of all passes
abbrev pub all_rows : List DeskView → List DrawnRow
all_rows views = flat_map rows_in views

-- the number of passes of a seat: those that it is to hand out, itself, or those that it took in
abbrev pub passes_in : DeskView → ℕ
passes_in (Opening total handed_out left) = left
passes_in (Drawing total number r) = 1
passes_in (Closing rows) = length rows
passes_in Reclaimed = 0

-- if a seat knows a total, it is t
abbrev pub HasTotal : ℕ → DeskView → Type 0
HasTotal t (Opening total handed_out left) = total ≡ t
HasTotal t (Drawing total number r) = total ≡ t
HasTotal t _ = Unit {0}

-- Between any two steps the rows of all passes deal each of the numbers once that were drawn, the word counts these and the spent passes,
-- and no pass is lost.
pub record IsLawful {S : Type 0} (plan : DeskPlan) (s : State S DeskView) : Type 0 where
  pub few : (plan.total ≤ most_lines) × (plan.passes ≤ most_passes)
  pub passes : sum_by passes_in s.views ≡ plan.passes
  pub drawn : ℕ
  pub deals : DealsEachOnce plan.total drawn (all_rows s.views)
  pub word : s.words ≡ (drawn + spent_in (all_rows s.views)) ∷ []
  pub totals : (seat : ℕ) (v : DeskView) → get_elem? s.views seat ≡ some v → HasTotal plan.total v

-- ==== What each step returns, and which views it leaves

-- The view w after a draw that found n: if n is below the total it ends the row, above all numbers there; otherwise the pass is spent
abbrev pub DrawsFrom : DeskView → ℕ → DeskView → Type 0
DrawsFrom (Drawing total number r) n w =
    MatchBool (nat_lt n total)
    ((w ≡ Drawing total number (drawn_row (r.numbers ++ n ∷ []) false)) × All (λ x. x < n) r.numbers)
    (w ≡ Drawing total number (drawn_row r.numbers true))
DrawsFrom _ n w = Unit {0}

-- a pass draws from what its seat holds
abbrev pub Draws : {S : Type 0} → Step S → Me S DeskView → ℕ → Me S DeskView → Type 0
Draws step me n now = (now.1 ≡ me.1) × DrawsFrom me.0 n now.0

-- The view w after a pass has drawn all that is left from n on.
abbrev pub DrawsRestFrom : DeskView → ℕ → DeskView → Type 0
DrawsRestFrom (Drawing total number r) n w = w ≡ Drawing total number (drawn_row (r.numbers ++ range_with_len n (total - n)) r.spent)
DrawsRestFrom _ n w = Unit {0}

-- a pass draws all that is left
abbrev pub DrawsRest : {S : Type 0} → Step S → Me S DeskView → ℕ → Me S DeskView → Type 0
DrawsRest step me n now = (now.1 ≡ me.1) × DrawsRestFrom me.0 n now.0

-- a new seat, which has reclaimed no pass yet
abbrev pub StartsClosing : {S : Type 0} → Step S → Me S DeskView → ℕ → Me S DeskView → Type 0
StartsClosing step me n now = now.0 ≡ Closing []

-- the opening seat with one pass more handed out
abbrev pub after_handing_out : DeskView → DeskView
after_handing_out (Opening total handed_out left) = Opening total (handed_out + 1) (left - 1)
after_handing_out view = view

-- the pass that it hands out: its number is the count of those before it, its row is empty, and it is not spent
abbrev pub pass_handed_out : DeskView → DeskView
pass_handed_out (Opening total handed_out left) = Drawing total handed_out (drawn_row [] false)
pass_handed_out _ = Reclaimed

-- the closing seat with a pass's row before the others
abbrev pub after_reclaiming : DeskView → DeskView → DeskView
after_reclaiming (Closing rows) w = Closing (rows_in w ++ rows)
after_reclaiming view w = view

-- ==== The protocol of the desk, in plain words

-- Each number drawn so far is dealt once. The word counts these numbers and the spent passes, and is at most the total plus the number of passes.
pub record CountsWhatItDeals (total passes : ℕ) (words : List ℕ) (rows : List DrawnRow) : Type 0 where
  pub drawn : ℕ
  pub deals : DealsEachOnce total drawn rows
  pub word : words ≡ (drawn + spent_in rows) ∷ []
  pub most : drawn + spent_in rows ≤ total + passes

-- between any two steps of any threads, for any passes
abbrev pub DeskIsLawful : Type 0
DeskIsLawful = (plan : DeskPlan) (state : State ⊤ DeskView) → IsLawful plan state
    → CountsWhatItDeals plan.total plan.passes state.words (all_rows state.views)
