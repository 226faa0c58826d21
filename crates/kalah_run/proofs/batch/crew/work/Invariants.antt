use Rattle.std.proofs.Common.{◌≡◌, ◌-◌}
use Rattle.kalah_run.{proofs.WorkerLemmas.{least_above}, specs.{IsAtWork}}
use Rattle.kalah_run.proofs.batch.crew.work.Given as goal

abbrev pub invariant-loop-job : goal.invariant-loop-job
invariant-loop-job g l = record {
  at_work : IsAtWork g.G.Gate.knows l.shared l.worker;
  number : l.worker.put_pass.number ≡ l.fn.worker.put_pass.number;
}

abbrev pub decreases-loop-job : goal.decreases-loop-job
decreases-loop-job g l = l.shared.desk.total - least_above l.worker.draw_pass.row.numbers
