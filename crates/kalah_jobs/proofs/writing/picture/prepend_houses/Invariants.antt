use Rattle.std.proofs.Common.{◌≡◌, ◌++◌, ◌+◌, ◌-◌, ◌*◌, ◌≤◌, length}
use Rattle.kalah_rules.specs.Position.{side_length}
use Rattle.kalah_jobs.{specs.{seeds_in}, proofs.TextLemmas.{columns}}
use Rattle.kalah_jobs.proofs.writing.picture.prepend_houses.Given as goal

abbrev pub invariant-loop-column : goal.invariant-loop-column
invariant-loop-column l = record {
  within : l.column ≤ side_length l.board;
  houses : l.text ≡ columns (seeds_in l.player l.board) (l.column + 1) (side_length l.board - l.column) ++ l.fn.text;
  longer : length l.text + 4 * l.column ≡ 4 * side_length l.board + length l.fn.text;
}

abbrev pub decreases-loop-column : goal.decreases-loop-column
decreases-loop-column l = l.column
