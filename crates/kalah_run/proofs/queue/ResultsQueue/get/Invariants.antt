use Rattle.std.proofs.Common.{◌≡◌}
use Rattle.kalah_run.proofs.queue.ResultsQueue.get.Given as goal

abbrev pub invariant-loop : goal.invariant-loop
invariant-loop g l = l.pass ≡ l.fn.pass
