use Rattle.std.proofs.Common.{◌≡◌, ◌+◌, take}
use Rattle.kalah_jobs.specs.{lines_in_all, most_lines}
use Rattle.kalah_jobs.proofs.files.jobs.are_lines_within_limit.Given as goal

abbrev pub invariant-loop-file : goal.invariant-loop-file
invariant-loop-file l = l.room + lines_in_all (take l.file-index l.files) ≡ most_lines
