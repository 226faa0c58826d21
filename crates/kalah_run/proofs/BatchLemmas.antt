-- A batch under way: the pass of the calling thread, what it collects, and what stands written when it has ended.
use Rattle.std.proofs.Common.{[], ◌≡◌, ◌<◌, ◌≤◌, ◌+◌, ℕ, List, ◌∷◌, ◌++◌, arith, sym, ap, ◌∙◌, Bool, true, false, refl, ⊎_elim}
use Rattle.std.proofs.Common.{length, ◌⊎◌, inl, inr, All, Some, Option, None, IfNone, MatchOption}
use Rattle.std.proofs.lemmas.{List.{map-append, length-append, length-map, Elements.{All-push}}, Bool.{both_ways}}
use Rattle.kalah_run.specs.{OutcomeState, passes_of, puts_of, HaveRun, HasBeenOffered, HasWritten, whole_output, AwaitsLine, WritesOn}
use Rattle.kalah_run.specs.{IsAbandoned, IsLeft, DrawsOnlyTheRest, GetPassState, PutPassState, ArePassesFrom, outcomes_in, PassState, IsPassAt}
use Rattle.kalah_run.specs.{HasCollected, IsAtStart, Receives, GetsNext}
use Rattle.kalah_run.specs.declared.batch.{ordered_output.OrderedOutput.{OrderedOutput}, worker.Worker.{Worker}}
use Rattle.kalah_run.specs.declared.batch.{receiver.{CallerPasses.{CallerPasses}, Receiver.{Receiver}}, shared_work.SharedWork.{SharedWork}}
use Rattle.kalah_run.specs.declared.batch.request.OnFailedWrite.{OnFailedWrite, TheVariants.{Solve, Leave}}
use Rattle.kalah_jobs.specs.{Collecting.AnyOrder.{IsPermutationOfJobs}, Writing.{Sink.{SinkState, WasGiven}, Output.{output_of_jobs, names_of}}}
use Rattle.kalah_jobs.proofs.SinkLemmas.{given_none}
use Rattle.kalah_run.proofs.{OutputLemmas.{new_has_written_nothing, sink_was_given_all, failed_sink_was_given_all, written_after_offer, under_way_after_no_text}, WorkerLemmas.{puts_after, run_passes}}

-- ==== The calling thread's pass, by which it draws what is left after a failed write

-- The rest is not left if it is to be solved, or if the output has not failed. Then a statement holds that holds unless the rest is left.
pub unless_left : {on_failed_write : OnFailedWrite} {failed : Bool} {pass : PassState} {A : Type 0} → A ⊎ IsLeft on_failed_write failed pass
    → (on_failed_write ≡ Solve) ⊎ (failed ≡ false) → A
unless_left (inl a) sound = a
unless_left (inr left) (inl solve) = absurd (let both : Leave ≡ Solve = sym left.abandoned.0 ∙ solve in cc both)
unless_left (inr left) (inr still) = absurd (both_ways _ still left.abandoned.1)

-- a failure isn't undone
failed_still : {W : Type 0} {state : W → SinkState} {old new : W} {text : List ℕ} → WasGiven state old new text
    → (state old).has_failed ≡ true → (state new).has_failed ≡ true
failed_still {state = state} given failed = ap (λ o. (state o).has_failed) (given.quiet failed) ∙ failed

-- the calling thread has drawn only the rest still, if a failure before is one afterwards
draws_weaken : {failed later : Bool} {before after : Receiver} → DrawsOnlyTheRest failed before after → (failed ≡ true → later ≡ true)
    → DrawsOnlyTheRest later before after
draws_weaken draws still = record {
  desk = draws.desk;
  on_failed_write = draws.on_failed_write;
  drawn = ⊎_elim inl (λ left. inr (record { abandoned = (left.abandoned.0, still left.abandoned.1); drawn = left.drawn })) draws.drawn;
}

-- the calling thread has drawn only the rest in two steps
draws_trans : {failed : Bool} {first second third : Receiver} → DrawsOnlyTheRest failed first second
    → DrawsOnlyTheRest failed second third → DrawsOnlyTheRest failed first third
draws_trans {first = first} {second} one two = record {
  desk = two.desk ∙ one.desk;
  on_failed_write = two.on_failed_write ∙ one.on_failed_write;
  drawn = elim (two.drawn) [
    | inl same ↦ ⊎_elim (λ (first_same : second.passes.rest_pass ≡ first.passes.rest_pass). inl (same ∙ first_same))
        (λ left. inr (rw same left)) one.drawn
    | inr left ↦ inr (rw (← one.on_failed_write) left)
  ];
}

-- fewer are to come than before, if they were no more at first
fewer_still : (first second third : ℕ) (result : Option OutcomeState) → second ≤ first
    → MatchOption result (third ≤ second) (λ _. third < second) → MatchOption result (third ≤ first) (λ _. third < first)
fewer_still first second third None few fewer = omega arith
fewer_still first second third (Some outcome) few fewer = omega arith

-- with the state of a sink
module _ {W : Type 0} {state : W → SinkState} {failed : Bool} {first second : Receiver} {old : W} where
  -- what was got while the sink was left alone
  pub gets_now : {result : Option OutcomeState} → Receives failed first result second → (failed ≡ true → (state old).has_failed ≡ true)
      → IfNone result (second.to_come ≡ 0) → GetsNext state first old result second old
  gets_now receives still ended = record {
    receives = record { got = receives.got; draws = draws_weaken receives.draws still; fewer = receives.fewer };
    ended = ended;
    unwritten = given_none state old;
  }

  -- what was got next, if at first none was
  pub gets_after : {third : Receiver} {new : W} {result : Option OutcomeState} → Receives failed first None second
      → (failed ≡ true → (state old).has_failed ≡ true) → GetsNext state second old result third new
      → GetsNext state first old result third new
  gets_after {result = result} none still next = record {
    receives = record {
      got = rw (← none.got) next.receives.got;
      draws = draws_trans (draws_weaken none.draws (λ e. failed_still next.unwritten (still e))) next.receives.draws;
      fewer = fewer_still _ _ _ result none.fewer next.receives.fewer;
    };
    ended = next.ended;
    unwritten = next.unwritten;
  }

-- the pass to get counts the workers, as it did when the batch was opened
pub workers_counted : {count : ℕ} {now before : CallerPasses} {new : GetPassState} → count ≡ now.get_pass.workers → now ≡ before
    → before.get_pass ≡ new → count ≡ new.workers
workers_counted kept now_is new_is = kept ∙ ap (λ p. p.get_pass.workers) now_is ∙ ap (λ p. p.workers) new_is

-- after the run, when the passes of the workers and that of the calling thread come back
module _ {G : Type 0} {knows : G → ℕ → Bool} {shared : SharedWork G} {before after : List Worker} (run : HaveRun knows shared before after) where
  -- with the pass p of the calling thread
  module _ {back : List PassState} (p : PassState) (back_is : back ≡ passes_of after ++ p ∷ []) where
    pub passes_are_back : {passes : ℕ} → passes ≡ length before + 1 → length back ≡ passes
    passes_are_back all =
        let many = ap length back_is ∙ length-append (passes_of after) (p ∷ []) in
        omega (arith, length-map after (λ w. w.draw_pass), run.as_many)

    -- each pass that comes back is of the desk
    pub own_back : IsPassAt shared.desk p → All (IsPassAt shared.desk) back
    own_back own = rw back_is (All-push (IsPassAt shared.desk) (passes_of after) p (run_passes run) own)

  -- all passes to put are back, each in its place
  pub puts_back : {len count : ℕ} {puts : List PutPassState} → len ≡ length puts → puts ≡ puts_of after → count ≡ length before
      → ArePassesFrom shared.queue.id 0 (puts_of before) → (len ≡ count) × ArePassesFrom shared.queue.id 0 puts
  puts_back many puts_are count from = (
    omega (arith, ap length puts_are, length-map after (λ w. w.put_pass), run.as_many),
    rw puts_are (puts_after shared before after 0 run from),
  )

-- ==== What stands written when a batch has ended

-- with the state of a sink
module _ {W : Type 0} (state : W → SinkState) where
  -- What was got so far is written as far as it is ready, and the calling thread keeps its passes of the queue and of the desk.
  pub record AreCollected (output : OrderedOutput) (begun out : W) (before now : Receiver) (r : OrderedOutput) : Type 0 where
    pub queue : now.passes.get_pass.queue ≡ before.passes.get_pass.queue
    pub workers : now.passes.get_pass.workers ≡ before.passes.get_pass.workers
    pub draws : DrawsOnlyTheRest (state out).has_failed before now
    pub same : (r.files.now ≡ output.files.now) × (r.jobs.now ≡ output.jobs.now)
    pub written : HasWritten state (outcomes_in now.passes.get_pass.got) begun out r
    pub waits : AwaitsLine r

module _ {W : Type 0} {state : W → SinkState} {output r : OrderedOutput} {begun out : W} where
  -- at first nothing was got
  pub collected_at_start : {before : Receiver} → IsAtStart before output → WritesOn state output begun r out → AwaitsLine r
      → AreCollected state output begun out before before r
  collected_at_start start writes waits = record {
    queue = refl;
    workers = refl;
    draws = record { desk = refl; on_failed_write = refl; drawn = inl refl };
    same = (writes.same_files, writes.same_jobs);
    written = rw start.ungot (writes.writes (new_has_written_nothing begun output start.unwritten));
    waits = waits;
  }

  -- what was collected so far, and then an outcome or none is got
  module _ {before now next : Receiver} {later : W} (so_far : AreCollected state output begun out before now r) where
    -- one outcome more was got and offered, and what is ready was written
    pub one_collected : {outcome : OutcomeState} {more : W} {text : List ℕ} {offered written : OrderedOutput}
        → GetsNext state now out (Some outcome) next later → HasBeenOffered r outcome offered → WasGiven state later more text
        → WritesOn state offered later written more → AwaitsLine written → AreCollected state output begun more before next written
    one_collected {outcome} gets offer given writes waits =
        let got = gets.receives.got in
        let more_got : outcomes_in next.passes.get_pass.got ≡ outcomes_in now.passes.get_pass.got ++ outcome ∷ [] =
        ap (λ p. outcomes_in p.got) got.2
        ∙ map-append (λ p. p.1) now.passes.get_pass.got ((got.0, outcome) ∷ []) in
        record {
          queue = ap (λ p. p.queue) got.2 ∙ so_far.queue;
          workers = ap (λ p. p.workers) got.2 ∙ so_far.workers;
          draws = draws_weaken (draws_trans (draws_weaken so_far.draws (failed_still gets.unwritten)) gets.receives.draws)
              (failed_still given);
          same = (writes.same_files ∙ offer.files ∙ so_far.same.0, writes.same_jobs ∙ offer.jobs ∙ so_far.same.1);
          written = rw more_got (writes.writes (written_after_offer outcome offer (under_way_after_no_text so_far.written gets.unwritten)));
          waits = waits;
        }

    -- none was got, as none is to come, and what was written is kept
    pub has_collected : {end : W} {after : CallerPasses} → IsAtStart before output → GetsNext state now out None next later
        → WasGiven state later end [] → after ≡ next.passes → HasCollected state output begun end before after
    has_collected {end} start gets unwritten after_is =
        let written : HasWritten state (outcomes_in next.passes.get_pass.got) begun end r =
        rw gets.receives.got (under_way_after_no_text (under_way_after_no_text so_far.written gets.unwritten) unwritten) in
        let draws = draws_weaken (draws_trans (draws_weaken so_far.draws (failed_still gets.unwritten)) gets.receives.draws)
        (failed_still unwritten) in
        let whole : whole_output r ≡ whole_output output = λ i. output_of_jobs (names_of (so_far.same.0 i)) (so_far.same.1 i) in
        rw after_is (record {
          queue = ap (λ p. p.queue) gets.receives.got ∙ so_far.queue;
          workers = ap (λ p. p.workers) gets.receives.got ∙ so_far.workers;
          own = rw (← draws.desk) next.draws;
          got_or_left = omega (arith, next.counts, gets.ended, ap (λ d. d.total) draws.desk, start.jobs);
          left = ⊎_elim (λ same. inl (ap (λ p. p.row) same ∙ start.undrawn)) inr draws.drawn;
          given = λ each_or_left. rw (← whole) (⊎_elim
              (λ (each : IsPermutationOfJobs output.jobs.now (outcomes_in next.passes.get_pass.got)).
              sink_was_given_all written (rw so_far.same.1 each) so_far.waits)
              (λ (left : IsAbandoned before.on_failed_write (state end).has_failed). failed_sink_was_given_all written left.1)
              each_or_left);
        })
