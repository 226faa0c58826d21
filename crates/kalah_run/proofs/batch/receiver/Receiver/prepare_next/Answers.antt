use Rattle.std.proofs.Common.{arith}
use Rattle.kalah_run.proofs.batch.receiver.Receiver.prepare_next.Goals as goal

pub invariant_of-self-clause-counts : goal.invariant_of-self-clause-counts
invariant_of-self-clause-counts c =
    omega (arith, c.draw_rest-left.ensures.drawn, c.saturating_sub-self.ensures, c.args.self.now.counts)
