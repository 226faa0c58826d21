use Rattle.std.proofs.Common.{◌≡◌}
use Rattle.kalah_run.proofs.queue.tests.get_all.Given as goal

abbrev pub invariant-loop : goal.invariant-loop
invariant-loop g l = l.pass.queue ≡ l.queue.id
