-- After each outcome that is accepted, all lines that became ready stand written. The loop ends once no outcome is to come.
use Rattle.std.proofs.{Common.{Some, None, rules}, lemmas.Bool.{false≢true}}
use Rattle.kalah_run.specs.{GetsNext}
use Rattle.kalah_run.proofs.{BatchLemmas.{collected_at_start, gets_after, gets_now, has_collected, one_collected}, batch.collecting.collect.Goals.{in-Some, in-None+in-Some-flush_and_get, else-loop-receiver-test, then-loop-receiver-test+in-None+in-None-flush_and_get}}
use Rattle.kalah_run.proofs.batch.collecting.collect.Given as given
use Rattle.kalah_run.proofs.batch.collecting.collect.Goals as goal

pub loop-receiver-init : goal.loop-receiver-init
loop-receiver-init g c = collected_at_start c.requires c.write_ready.ensures.writes c.write_ready.ensures.waits

-- an outcome was got, soon or later
outcome_got : (g : given.Over) (c : goal.After-on_accepted g) → GetsNext g.W.Sink.state c.loop-receiver.receiver c.loop-receiver.out
    (Some c.match-get_soon.outcome) c.match-get_soon.receiver c.match-get_soon.out
outcome_got g c =
    let awaits = rw c.failed.ensures at c.prepare_next.ensures.receives in
    elim c.match-get_soon.branch [
      | in-Some w ↦ rw (w.out-is, w.receiver-is, w.outcome-is)
          (gets_after awaits (λ e. e) (gets_now w.in-Some.ensures.receives (λ e. absurd (false≢true e)) tt))
      | in-None+in-Some-flush_and_get w ↦ rw (w.out-is, w.receiver-is, w.outcome-is)
          (gets_after awaits (λ e. e) (gets_after w.in-None.ensures.receives (λ e. absurd (false≢true e)) w.in-Some-flush_and_get.ensures))
    ]

pub loop-receiver-preserved : goal.loop-receiver-preserved
loop-receiver-preserved g c =
    let write = c.write_ready-in-loop-receiver.ensures in
    one_collected c.loop-receiver.invariant (outcome_got g c) c.offer.ensures write.given.1 write.writes write.waits

-- none is to come, as the test of the loop says, or a wait that was not begun
none_got : (g : given.Over) (c : goal.After-drop-output g) → GetsNext g.W.Sink.state c.loop-receiver.receiver c.loop-receiver.out None
    c.loop-receiver-test.receiver c.loop-receiver-test.out
none_got g c =
    let awaits = rw c.failed.ensures at c.prepare_next.ensures.receives in
    elim c.loop-receiver-test.branch [
      | else-loop-receiver-test w ↦ rw (w.out-is, w.receiver-is) (gets_now awaits (λ e. e) (search rules))
      | then-loop-receiver-test+in-None+in-None-flush_and_get w ↦ rw (w.out-is, w.receiver-is)
          (gets_after awaits (λ e. e) (gets_after w.in-None.ensures.receives (λ e. absurd (false≢true e)) w.in-None-flush_and_get.ensures))
    ]

pub returns-clause-collected : goal.returns-clause-collected
returns-clause-collected g c =
    has_collected c.loop-receiver.invariant c.requires (none_got g c) c.flush_to_wait.ensures.unwritten
    c.into_passes.ensures
