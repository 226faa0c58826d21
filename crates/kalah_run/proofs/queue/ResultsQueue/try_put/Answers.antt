use Rattle.kalah_run.proofs.QueueLemmas.{put_is_lawful}
use Rattle.kalah_run.proofs.queue.ResultsQueue.try_put.Goals as goal

pub try_push_as-requires-clause-rule : goal.try_push_as-requires-clause-rule
try_push_as-requires-clause-rule c = put_is_lawful _ _ _ c.pass.invariant.1
