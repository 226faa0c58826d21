-- What stands in the output before a position of a game is solved.
use Rattle.std.specs.Prelude.{◌≡◌, ◌++◌, ℕ, List}
use Rattle.kalah_rules.specs.{Position.{Position}, Play.{position_after, step_of}}
use Rattle.kalah_solve.specs.{Solver.Worth.{worth}, declared.solver.move_values.MoveValue.{MoveValue}}
use Rattle.kalah_jobs.specs.Writing.{Sink.{SinkState, WasGiven}, ValuesLine.{shown_of}, Variation.{variation_start}}
use Rattle.kalah_cli.specs.{Commands.{Game.{move_text, printed_value, MoveForm, Lines, Houses}, Moves.{board_lines}}, declared.commands.game_solver.GameSolver.{GameSolver}}

-- a game as it began: how its moves are written, the first position, and the sink before any of it was written
pub record GameStart (O : Type 0) : Type 0 where
  pub form : MoveForm
  pub first : Position
  pub sink : O

abbrev pub begun : {O : Type 0} → GameSolver O → GameStart O
begun s = record { form = s.form; first = s.first.value; sink = s.sink.value }

module _ {O : Type 0} (state : O → SinkState) (game : GameStart O) where
  -- the variations of this position are written: the sink was given the picture, what each move is worth, and maybe more
  pub record ShowsValues (p : Position) (new : O) : Type 0 where
    pub form : game.form ≡ Houses
    pub first : game.first ≡ p
    pub more : List ℕ
    pub shown : WasGiven state game.sink new (shown_of p ++ more)

  -- The game of a variation begins at the position after a move: the sink was given how the line of that move begins, below all that comes
  -- before
  pub record BeginsVariation (new : O) (p : Position) : Type 0 where
    pub between : O
    pub move : MoveValue
    pub below : ShowsValues game.first between
    pub line : WasGiven state between new (variation_start move)
    pub after : p ≡ position_after (step_of game.first move.house)

  -- The game begins at this position: one in lines at the first position, whose picture was given to the sink if boards are drawn.
  abbrev pub BeginsGame : MoveForm → O → Position → Type 0
  BeginsGame (Lines boards values) new p = (p ≡ game.first) × WasGiven state game.sink new (board_lines boards game.first)
  BeginsGame Houses new p = BeginsVariation new p

  -- a position of the game is reached: the game began, and then the sink was given each move that leads to this position, and nothing else
  pub data IsReached : O → Position → Type 0 where
    reached_at_start : {new : O} {p : Position} → BeginsGame game.form new p → IsReached new p
    reached_by_move : {new : O} (between : O) (p : Position) (h : ℕ) → IsReached between p
        → WasGiven state between new (move_text game.form (printed_value game.form (worth p)) h (step_of p h))
        → IsReached new (position_after (step_of p h))
