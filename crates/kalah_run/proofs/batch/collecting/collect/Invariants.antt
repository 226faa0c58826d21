use Rattle.kalah_run.proofs.BatchLemmas.{AreCollected}
use Rattle.kalah_run.proofs.batch.collecting.collect.Given as goal

abbrev pub invariant-loop-receiver : goal.invariant-loop-receiver
invariant-loop-receiver g l =
    AreCollected g.W.Sink.state l.fn.output l.fn.out l.out l.fn.receiver l.receiver l.output

abbrev pub decreases-loop-receiver : goal.decreases-loop-receiver
decreases-loop-receiver g l = l.receiver.to_come
