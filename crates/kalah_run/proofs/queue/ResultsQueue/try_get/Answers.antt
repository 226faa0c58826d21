use Rattle.kalah_run.proofs.QueueLemmas.{get_is_lawful}
use Rattle.kalah_run.proofs.queue.ResultsQueue.try_get.Goals as goal

pub try_pop_as-requires-clause-rule : goal.try_pop_as-requires-clause-rule
try_pop_as-requires-clause-rule c = get_is_lawful c.pass.invariant.1 _
