-- The sink is given the output of the files, by the batch that was run, or because it is empty; the flush adds nothing to it.
use Rattle.std.proofs.{lemmas.Grind.{common_steps}, Common.{◌≡◌, Err, rules, ◌∙◌, sym, ap, ⊎_elim, inl, inr, arith}}
use Rattle.kalah_jobs.specs.{Writing.{Sink.{WasGiven}, Output.{output_for}}}
use Rattle.kalah_jobs.proofs.SinkLemmas.{given_none, given_then_flush}
use Rattle.kalah_run.specs.declared.batch.run_fault.RunFault.TheVariants.{NoWorker}
use Rattle.kalah_run.proofs.{AnsweringLemmas.{answered, as_many_jobs, no_output, whole_output_is}, batch.answer_batch.Goals.{then-total-gt0+in_ok-open+in_ok-run, else-total-gt0}}
use Rattle.kalah_run.proofs.batch.answer_batch.Goals as goal

-- no thread could be started
pub returns-in_err-run-clause-answers : goal.returns-in_err-run-clause-answers
returns-in_err-run-clause-answers g c =
    let jobs = c.in_ok-jobs.ensures in
    let fault = c.in_err-run.ensures.fault in
    let is : c.from_residual-in_err-run.result ≡ Err NoWorker = search rules in
    rw is (
      jobs.0,
      rw (c.total.ensures.lines ∙ as_many_jobs _ _ jobs.1) at c.if-total-gt0.true,
      (fault.1, ap (λ o. (g.W.Sink.state o).has_failed) fault.1 ∙ c.requires.not_failed),
    )

-- the sink was given the answers to all lines, and then flushed
pub returns-clause-answers : goal.returns-clause-answers
returns-clause-answers g c =
    let question = c.args.request.now.question in
    let files = c.args.request.now.files.now in
    let jobs = c.in_ok-jobs.ensures in
    let end = c.flush_and_count.ensures in
    let given : WasGiven g.W.Sink.state c.args.out.now c.if-total-gt0.out (output_for question files) =
    elim c.if-total-gt0.branch [
      | then-total-gt0+in_ok-open+in_ok-run w ↦
          let asked = w.in_ok-open.ensures.asked in
          rw (
            w.out-is,
            ← whole_output_is question files w.in_ok-open.field-0.output asked.of_files
                (w.in_ok-open.ensures.ready.jobs ∙ asked.of_jobs ∙ jobs.1),
          ) w.in_ok-run.ensures.given
      | else-total-gt0 w ↦
          let none = c.total.ensures.lines ∙ as_many_jobs _ _ jobs.1 in
          rw (w.out-is, no_output question files (omega (arith, w.if-total-gt0.false))) (given_none g.W.Sink.state c.args.out.now)
    ] in
    answered g.W.Sink.state question files _ jobs _ _ (given_then_flush g.W.Sink.state given end.given) end.counted end.all_flushed
    end.fault

-- the gate knows each job, if the rest is to be solved or no write has failed
pub returns-clause-gate_hears_all : goal.returns-clause-gate_hears_all
returns-clause-gate_hears_all g c = λ unless ok job low.
    let end = c.flush_and_count.ensures in
    let jobs = as_many_jobs _ _ c.in_ok-jobs.ensures.1 in
    elim c.if-total-gt0.branch [
      | then-total-gt0+in_ok-open+in_ok-run w ↦
          let asked = w.in_ok-open.ensures.asked in
          let same = ap (λ o. (g.W.Sink.state o).has_failed) (sym w.out-is) in
          rw (← asked.of_gate) (w.in_ok-run.ensures.gate_hears_all
          (⊎_elim (λ solve. inl (asked.on_failed_write ∙ solve)) (λ sound. inr (same ∙ (end.given.whole sound).0)) unless) job
          (rw (asked.of_jobs, jobs) low))
      | else-total-gt0 w ↦ absurd (omega (arith, w.if-total-gt0.false, c.total.ensures.lines))
    ]

pub open-requires-after_bounds : goal.open-requires-after_bounds
open-requires-after_bounds g c κs within = grind (arith, common_steps)

pub run-requires-after_bounds : goal.run-requires-after_bounds
run-requires-after_bounds g c κs within = c.in_ok-open.ensures.ready
