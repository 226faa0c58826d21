-- The games that are played from a position, and how they are written.
use Rattle.std.specs.Prelude.{◌≡◌, ℕ, ℤ, zero, suc, List, [], ◌∷◌, ◌++◌, Option, Some, None, Contains, if◌then◌else◌, true, unwrap_or}
use Rattle.kalah_rules.specs.{Measure.{moves_left}, Position.{Position, HasEqualSides, final_margin, is_over}, Play.{legal_houses, position_after, step_of}, declared.step.Step.{Step}}
use Rattle.kalah_solve.specs.Solver.{BestPlay.{Game, follow}, Worth.{best_house, value_of_move, worth}}
use Rattle.kalah_jobs.specs.Writing.Variation.{next_house}
use Rattle.kalah_cli.specs.Commands.Moves.{move_lines}
pub use Rattle.kalah_cli.specs.declared.commands.game.MoveForm.{MoveForm}
pub use Rattle.kalah_cli.specs.declared.commands.game.MoveForm.TheVariants.{Lines, Houses}

-- the houses of the first n moves from p, if both players always move the lowest-numbered best house
unfoldable pub best_moves : ℕ → Position → List ℕ
best_moves zero p = []
best_moves (suc n) p = if is_over p then [] else best_house p ∷ best_moves n (position_after (step_of p (best_house p)))

-- the houses of all these moves, up to the end of the game
abbrev pub best_game : Position → List ℕ
best_game p = best_moves (moves_left p) p

-- the houses of a game in which both players play so, or first move a house that is asked for
abbrev pub game_played : Option ℕ → Position → List ℕ
game_played None p = best_game p
game_played (Some h) p = h ∷ best_game (position_after (step_of p h))

-- ---- its moves, as they are written

-- the value that a move has, if values are shown, in a position with this margin of best play
abbrev pub printed_value : MoveForm → ℤ → Option ℤ
printed_value (Lines boards true) margin = Some margin
printed_value form margin = None

-- a move of a house that leads to this, with this value or none
abbrev pub move_text : MoveForm → Option ℤ → ℕ → Step → List ℕ
move_text (Lines boards values) value h step = move_lines boards value h step
move_text Houses value h step = next_house h

-- the next move of a game that may begin with a house that is asked for, and the value that it has
pub record IsNextMove (form : MoveForm) (first : Option ℕ) (p : Position) (value : Option ℤ) (h : ℕ) : Type 0 where
  pub legal : Contains (legal_houses p) h
  pub house : h ≡ unwrap_or first (best_house p)
  pub shown : value ≡ printed_value form (worth p)

-- the moves of these houses, in order, from a position on
abbrev pub game_text : MoveForm → Position → List ℕ → List ℕ
game_text form p [] = []
game_text form p (h ∷ houses) =
    move_text form (printed_value form (worth p)) h (step_of p h) ++ game_text form (position_after (step_of p h)) houses

-- ---- the laws on this game

-- a game in which both players always move the lowest-numbered best house
abbrev pub IsPlayedBest : Position → List ℕ → Position → Type 0
IsPlayedBest p houses final = Game (follow best_house) (follow best_house) p houses final

-- from each position `best_game` is such a game, and ends with the margin of best play for the player who moves first
abbrev pub PlaysBestGames : Type 0
PlaysBestGames = (p : Position) → HasEqualSides p
    → (final : Position) × IsPlayedBest p (best_game p) final × (final_margin final ≡ worth p)

-- a game that begins with a legal move and goes on with best play is played by the rules, and ends with the value of that move for the
-- player who makes it
abbrev pub VariationsEndWithTheirValue : Type 0
VariationsEndWithTheirValue = (p : Position) (h : ℕ) → HasEqualSides p → Contains (legal_houses p) h
    → (final : Position) × Game legal_houses legal_houses p (game_played (Some h) p) final × (final_margin final ≡ value_of_move p h)
