use Rattle.std.proofs.Common.{◌≤◌, ◌-◌, length, take}
use Rattle.kalah_jobs.specs.{HasNoLineFeed}
use Rattle.kalah_jobs.proofs.files.file_lines.first_line.Given as goal

abbrev pub invariant-loop-from : goal.invariant-loop-from
invariant-loop-from l = record {
  within : l.from ≤ length l.bytes;
  none : HasNoLineFeed (take l.from l.bytes);
}

abbrev pub decreases-loop-from : goal.decreases-loop-from
decreases-loop-from l = length l.bytes - l.from
