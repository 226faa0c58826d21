use Rattle.std.proofs.Common.{◌≡◌, ◌+◌, ◌≤◌, ◌==◌, count_by, length}
use Rattle.kalah_jobs.specs.{line_feed, lines_of}
use Rattle.kalah_jobs.proofs.files.file_lines.count_lines.Given as goal

abbrev pub invariant-loop-rest : goal.invariant-loop-rest
invariant-loop-rest l = record {
  count : l.lines + count_by (λ byte. byte == line_feed) l.rest ≡ length (lines_of l.bytes);
  low : l.lines + length l.rest ≤ length l.bytes;
}

abbrev pub decreases-loop-rest : goal.decreases-loop-rest
decreases-loop-rest l = length l.rest
