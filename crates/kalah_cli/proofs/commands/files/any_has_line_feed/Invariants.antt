use Rattle.std.{proofs.Common.{◌≡◌, drop, map}, specs.List.{list_any}}
use Rattle.kalah_cli.specs.{has_line_feed}
use Rattle.kalah_cli.proofs.commands.files.any_has_line_feed.Given as goal

-- a line feed is sought in the names from this one on
abbrev pub invariant-loop-name : goal.invariant-loop-name
invariant-loop-name l =
    list_any has_line_feed (map (λ name. name.now) l.names)
    ≡ list_any has_line_feed (map (λ name. name.now) (drop l.name-index l.names))
