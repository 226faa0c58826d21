-- What `kalah play` prints.
use Rattle.std.specs.Prelude.{◌≡◌, ℕ, List, ◌++◌, Option, Some, None, Contains, ⊤}
use Rattle.kalah_rules.specs.{Position.{Position}, Play.{legal_houses}}
use Rattle.kalah_run.specs.declared.batch.run_fault.RunFault.TheVariants.{OutOfMemory}
use Rattle.kalah_cli.specs.declared.exit.failure.Failure.{Failure, TheVariants.{IllegalHouse, Run}}
use Rattle.kalah_cli.specs.{declared.arguments.request.PlayCommand.{PlayCommand}, Commands.{Moves.{board_lines}, Game.{game_played, game_text, Lines}}}

-- the position, if boards are drawn, and the moves of the game, with the value of the position of each, if values are asked for
abbrev pub play_output : PlayCommand → Position → List ℕ
play_output c p = board_lines c.boards p ++ game_text (Lines c.boards c.values) p (game_played c.first p)

-- the house that is asked for may be moved
abbrev pub MayBegin : Option ℕ → Position → Type 0
MayBegin None p = ⊤
MayBegin (Some h) p = Contains (legal_houses p) h

-- that house may not be moved, or memory was refused
abbrev pub FailsToBegin : Option ℕ → Position → Failure → Type 0
FailsToBegin first p (IllegalHouse h) = (first ≡ Some h) × (MayBegin first p → ⊥)
FailsToBegin first p (Run OutOfMemory) = ⊤
FailsToBegin first p _ = ⊥
