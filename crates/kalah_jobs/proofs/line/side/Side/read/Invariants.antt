use Rattle.std.proofs.Common.{length}
use Rattle.kalah_jobs.proofs.SideLemmas.{IsReadSoFar}
use Rattle.kalah_jobs.proofs.line.side.Side.read.Given as goal

abbrev pub invariant-loop-seeds : goal.invariant-loop-seeds
invariant-loop-seeds l = IsReadSoFar l.bytes l.side l.rest

abbrev pub decreases-loop-seeds : goal.decreases-loop-seeds
decreases-loop-seeds l = length l.rest
