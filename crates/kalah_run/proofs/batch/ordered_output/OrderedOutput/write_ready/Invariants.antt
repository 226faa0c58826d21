use Rattle.std.proofs.Common.{◌+◌, ◌-◌, ℕ, List, length, sum_by}
use Rattle.kalah_jobs.specs.{Collecting.CollectorState.{front}, Writing.Sink.{WasGiven}}
use Rattle.kalah_run.specs.{WritesOn}
use Rattle.kalah_run.proofs.batch.ordered_output.OrderedOutput.write_ready.Given as goal

abbrev pub invariant-loop-self : goal.invariant-loop-self
invariant-loop-self g l = record {
  given : (text : List ℕ) × WasGiven g.W.Sink.state l.fn.out l.out text;
  writes : WritesOn g.W.Sink.state l.fn.self l.fn.out l.self l.out;
}

-- how many lines are ready and were not taken, of all files, and how many files are left, from the current one on
abbrev pub decreases-loop-self : goal.decreases-loop-self
decreases-loop-self g l =
    sum_by (λ s. front s - s.taken) l.self.collector + (length l.self.jobs.now - l.self.current)
