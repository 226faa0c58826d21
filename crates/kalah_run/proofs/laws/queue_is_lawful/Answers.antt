use Rattle.kalah_run.proofs.QueueLemmas.{queue_is_lawful}
use Rattle.kalah_run.proofs.laws.queue_is_lawful.Goals as goal

pub returns : goal.returns
returns c = queue_is_lawful
