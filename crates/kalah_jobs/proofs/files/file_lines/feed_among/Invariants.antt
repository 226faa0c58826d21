use Rattle.std.proofs.Common.{◌+◌, take}
use Rattle.kalah_jobs.specs.{HasNoLineFeed}
use Rattle.kalah_jobs.proofs.files.file_lines.feed_among.Given as goal

abbrev pub invariant-loop-i : goal.invariant-loop-i
invariant-loop-i l = HasNoLineFeed (take (l.from + l.i) l.bytes)
