use Rattle.std.proofs.Common.{◌≡◌, ◌≤◌}
use Rattle.kalah_run.proofs.queue.ResultsQueue.get_soon.Given as goal

abbrev pub invariant-loop-tries : goal.invariant-loop-tries
invariant-loop-tries l = record { same : l.pass ≡ l.fn.pass; spent : l.tries ≤ l.fn.tries }

abbrev pub decreases-loop-tries : goal.decreases-loop-tries
decreases-loop-tries l = l.tries
