-- What a position is worth, and by which house.
use Rattle.std.specs.Prelude.{◌≡◌, ℕ, ◌≤◌, true, false, ℤ, if◌then◌else◌}
use Rattle.kalah_rules.specs.{Limits.{most_houses}, Position.{Position, is_over, final_margin, IsMarginInRange}}
use Rattle.kalah_solve.specs.{Solver.{Worth.{worth, best_house}, BestPlay.{IsBestPlay, IsBestMove}}, declared.solver.Verdict.{Verdict, TheVariants.{Best, Over}}}

-- the final margin of a game that is over, otherwise the margin of best play with the lowest-numbered best house
abbrev pub verdict_of : Position → Verdict
verdict_of p = if is_over p then Over (final_margin p) else Best (worth p) (best_house p)

-- the margin is one that a player can have, and the house is one of a side
pub record IsBestInRange (margin : ℤ) (house : ℕ) : Type 0 where
  pub small : IsMarginInRange margin
  pub first : 1 ≤ house
  pub last : house ≤ most_houses

abbrev pub IsVerdictInRange : Verdict → Type 0
IsVerdictInRange (Best margin house) = IsBestInRange margin house
IsVerdictInRange (Over margin) = IsMarginInRange margin

-- the game goes on, and the house is the lowest-numbered best house, which secures the margin of best play
pub record StatesBestMove (p : Position) (margin : ℤ) (house : ℕ) : Type 0 where
  pub going : is_over p ≡ false
  pub best : IsBestMove p house margin
  pub lowest : (h : ℕ) → IsBestMove p h margin → house ≤ h

-- the game is over with the margin
pub record StatesEnd (p : Position) (margin : ℤ) : Type 0 where
  pub over : is_over p ≡ true
  pub final : margin ≡ final_margin p
  pub best_play : IsBestPlay p margin

-- the verdict states the margin of best play and the lowest-numbered best house, or the margin of a game that is over
abbrev pub StatesBestPlay : Position → Verdict → Type 0
StatesBestPlay p (Best margin house) = StatesBestMove p margin house
StatesBestPlay p (Over margin) = StatesEnd p margin
