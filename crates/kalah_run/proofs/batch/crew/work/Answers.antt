-- A round adds one number to the worker's row, a job that the gate knows, and sends the outcome of that job.
use Rattle.std.proofs.{Common.{◌≡◌, ℕ, ◌∷◌, ◌++◌, [], true, rules, sym, ap, ◌∙◌}, lemmas.List.Elements.{All-push}}
use Rattle.kalah_run.{specs.{DrawnRow, PassState, PutPassState}, proofs.WorkerLemmas.{drawn_jobs-more, less_left}}
use Rattle.kalah_run.proofs.batch.crew.work.Goals as goal

-- with no job in hand, all that was drawn is sent
pub loop-job-preserved : goal.loop-job-preserved
loop-job-preserved g c =
    let before = c.loop-job.invariant.at_work in
    let Known : ℕ → Type 0 = λ job. g.G.Gate.knows c.args.shared.now.gate.now job ≡ true in
    let same = c.solve-outcome.ensures.same in
    let drawn = ap (λ (p : PassState). p.row.numbers) same.0 ∙ ap (λ (r : DrawnRow). r.numbers) c.in-Some.ensures.drawn in
    record {
      at_work = record {
        draws = rw same.0 c.draw.ensures.own;
        sends = ap (λ (p : PutPassState). p.queue) (c.put.ensures) ∙ ap (λ (p : PutPassState). p.queue) same.1 ∙ before.sends;
        known = rw drawn (All-push Known c.loop-job.worker.draw_pass.row.numbers c.in-Some.job before.known (search rules));
        sent = ap (λ (p : PutPassState). p.sent) c.put.ensures
            ∙ ap (λ (p : PutPassState). p.sent ++ c.solve-outcome.result ∷ []) same.1
            ∙ rw before.sent (rw drawn (sym (drawn_jobs-more c.args.shared.now.jobs.now c.loop-job.worker.draw_pass.row.numbers _ _
            c.solve-outcome.ensures.outcome)));
      };
      number = ap (λ (p : PutPassState). p.number) c.put.ensures ∙ ap (λ (p : PutPassState). p.number) same.1 ∙ c.loop-job.invariant.number;
    }

pub loop-job-smaller : goal.loop-job-smaller
loop-job-smaller g c =
    let same = c.solve-outcome.ensures.same in
    less_left _ (ap (λ (p : PassState). p.row.numbers) same.0 ∙ ap (λ (r : DrawnRow). r.numbers) c.in-Some.ensures.drawn)
    c.in-Some.ensures.above c.in-Some.ensures.below
