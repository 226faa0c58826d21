use Rattle.std.proofs.Common.{◌≡◌, ◌≤◌, ◌==◌, take, count_by}
use Rattle.kalah_jobs.specs.{line_feed}
use Rattle.kalah_jobs.proofs.files.file_lines.count_feeds_in_block.Given as goal

abbrev pub invariant-loop-byte : goal.invariant-loop-byte
invariant-loop-byte l = record {
  count : l.count ≡ count_by (λ byte. byte == line_feed) (take l.byte-index l.block);
  low : l.count ≤ l.byte-index;
}
