use Rattle.kalah_run.proofs.PassLemmas.{all_are_of}
use Rattle.kalah_run.proofs.queue.tests.run_batch.Goals as goal

pub through_threads-requires-clause-puts : goal.through_threads-requires-clause-puts
through_threads-requires-clause-puts g c κs within = all_are_of c.in_ok-queue.queue.id 0 c.in_ok-queue.puts.items
    c.in_ok-queue.ensures.puts.1
