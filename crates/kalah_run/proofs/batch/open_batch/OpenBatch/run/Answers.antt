-- The desk closes with each number drawn once, and the queue with each outcome sent got once or left inside. So the outcomes got are those
-- of all jobs, or the rest is left after a failed write; in either case the collection says what the sink was given.
use Rattle.std.proofs.Common.{⊎_elim, inl, inr, ap, arith, length, sym, ◌∙◌}
use Rattle.kalah_jobs.specs.{Collecting.AnyOrder.{IsPermutationOfJobs}, Files.Jobs.{job_count}}
use Rattle.kalah_run.specs.{DealsEachOnce, drawn_rows, GetPassState, PassState, outcomes_in, passes_of, HasDrawnNothing}
use Rattle.kalah_run.proofs.{WorkerLemmas.{each_job_known, each_job_got}, BatchLemmas.{passes_are_back, own_back, puts_back, unless_left, workers_counted}, RowLemmas.{deals_to_others}, batch.open_batch.OpenBatch.run.Given.{Over}}
use Rattle.kalah_run.proofs.batch.open_batch.OpenBatch.run.Goals as goal

pub new-receiver-requires-clause-draws : goal.new-receiver-requires-clause-draws
new-receiver-requires-clause-draws g c = let pass = c.requires.rest_pass in (ap (λ p. p.desk) pass, ap (λ p. p.total) pass)

pub new-receiver-requires-clause-undrawn : goal.new-receiver-requires-clause-undrawn
new-receiver-requires-clause-undrawn g c = ap (λ p. p.row) c.requires.rest_pass

pub new-receiver-requires-clause-gets : goal.new-receiver-requires-clause-gets
new-receiver-requires-clause-gets g c = ap (λ p. p.queue) c.requires.get_pass

pub new-receiver-requires-clause-ungot : goal.new-receiver-requires-clause-ungot
new-receiver-requires-clause-ungot g c = ap (λ p. p.got) c.requires.get_pass

pub collect_from_crew-requires-after_bounds : goal.collect_from_crew-requires-after_bounds
collect_from_crew-requires-after_bounds g c κs within =
    let ready = c.requires in
    let receiver = c.new-receiver.ensures in (
      ready.at_work,
      record {
        ungot = rw receiver.passes (ap (λ (p : GetPassState). p.got) ready.get_pass);
        undrawn = rw receiver.passes (ap (λ (p : PassState). p.row) ready.rest_pass);
        jobs = rw receiver.desk (c.args.self.shared.each_job ∙ ap job_count (sym ready.jobs));
        unwritten = ready.output;
      },
    )

-- ---- the passes come back

pub take_back-requires : goal.take_back-requires
take_back-requires g c = rw (c.in-Some.workers.ok.0 ∙ c.in-Some.ensures.0.as_many) c.requires.room

pub close-requires-clause-all : goal.close-requires-clause-all
close-requires-clause-all g c = passes_are_back c.in-Some.ensures.0 _ c.take_back.ensures.passes c.requires.passes

pub close-requires-clause-own : goal.close-requires-clause-own
close-requires-clause-own g c =
    own_back c.in-Some.ensures.0 _ c.take_back.ensures.passes (rw c.new-receiver.ensures.desk at c.in-Some.ensures.1.own)

pub close-requires-2-clause-puts : goal.close-requires-2-clause-puts
close-requires-2-clause-puts g c =
    puts_back c.in-Some.ensures.0 c.take_back.new.self.put_passes.ok.0 c.take_back.ensures.puts
    (workers_counted c.in-Some.ensures.1.workers c.new-receiver.ensures.passes c.requires.get_pass)
    c.requires.put_passes

-- ---- what has come is written

-- each job was drawn once, by a worker if the calling thread has drawn nothing
dealt : (g : Over) (c : goal.After-close-2 g) → HasDrawnNothing c.in-Some.caller.rest_pass
    → DealsEachOnce (job_count c.args.self.shared.jobs.now) c.close.result.drawn (drawn_rows (passes_of c.in-Some.workers.items))
dealt g c nothing = deals_to_others (passes_of c.in-Some.workers.items) c.in-Some.caller.rest_pass (ap (λ r. r.numbers) nothing)
    (rw c.args.self.shared.each_job at (rw c.take_back.ensures.passes at c.close.ensures.deals))

-- each job's outcome was got once, if the calling thread has drawn nothing
each_got : (g : Over) (c : goal.After-close-2 g) → HasDrawnNothing c.in-Some.caller.rest_pass
    → IsPermutationOfJobs c.args.self.output.jobs.now (outcomes_in c.in-Some.caller.get_pass.got)
each_got g c nothing =
    let collected = c.in-Some.ensures.1 in
    let workers = workers_counted collected.workers c.new-receiver.ensures.passes c.requires.get_pass in
    each_job_got c.in-Some.ensures.0 c.in-Some.caller.get_pass.got workers (dealt g c nothing)
    c.take_back.ensures.puts c.close-2.ensures.whole c.requires.jobs
    (omega (arith, collected.got_or_left, ap (λ r. length r.numbers) nothing))

pub returns-clause-given : goal.returns-clause-given
returns-clause-given g c =
    let collected = c.in-Some.ensures.1 in
    collected.given (⊎_elim (λ nothing. inl (each_got g c nothing)) (λ left. inr left.abandoned) collected.left)

pub returns-clause-gate_hears_all : goal.returns-clause-gate_hears_all
returns-clause-gate_hears_all g c = λ unless job low.
    each_job_known c.in-Some.ensures.0 c.requires.some_worker
    (dealt g c (unless_left (rw c.new-receiver.ensures.on_failed_write at c.in-Some.ensures.1.left) unless)) job low
