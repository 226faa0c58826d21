-- What a command about a line prints of the line's position.
use Rattle.std.specs.Prelude.{◌≡◌, ℕ, List, true, ⊤}
use Rattle.kalah_rules.specs.Position.{Position}
use Rattle.kalah_cli.specs.{Commands.{Count.{count_output}, Moves.{moves_output}, Play.{MayBegin, play_output}, Show.{show_output}}, declared.arguments.request.LineCommand.{LineCommand, TheVariants.{Moves, Play, Show, Count}}}

abbrev pub command_output : LineCommand → Position → List ℕ
command_output (Moves boards) = moves_output boards
command_output (Play command) = play_output command
command_output (Show command) = show_output command.plain command.lines
command_output (Count depth) = count_output depth

-- the command's output is printed: a game can't begin with a house that may not be moved
abbrev pub MayPrint : LineCommand → Position → Type 0
MayPrint (Play command) p = MayBegin command.first p
MayPrint command p = ⊤

-- the command prints its output without a search
abbrev pub SearchesNothing : LineCommand → Type 0
SearchesNothing (Play command) = ⊥
SearchesNothing (Show command) = command.plain ≡ true
SearchesNothing command = ⊤
