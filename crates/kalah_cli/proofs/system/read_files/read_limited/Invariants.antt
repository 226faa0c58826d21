use Rattle.std.{proofs.Common.{◌+◌, ◌-◌, length}, specs.Io.KnownBytes.{Consumes}}
use Rattle.kalah_cli.proofs.system.read_files.read_limited.Given as goal

-- what was read so far was taken from the front of what the reader had
abbrev pub invariant-loop-chunk : goal.invariant-loop-chunk
invariant-loop-chunk g l = Consumes (g.F.Read.remaining l.initial.reader) (g.F.Read.remaining l.reader) l.bytes.items

abbrev pub decreases-loop-chunk : goal.decreases-loop-chunk
decreases-loop-chunk g l = l.limit + 1 - length l.bytes.items
