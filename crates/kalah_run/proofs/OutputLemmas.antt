-- The output of a batch: the loop that writes each line once it is ready.
use Rattle.std.proofs.Common.{[], add-one, ◌≡◌, ◌≤◌, ◌<◌, ◌+◌, ℕ, suc, List, ◌∷◌, ◌++◌, arith, sym, ap, ◌∙◌, true, refl, ⊎_elim, length, get_or}
use Rattle.std.proofs.Common.{get_or-set_other, get_or-set_same, take, drop, Some, slice_get, None, Result}
use Rattle.std.proofs.lemmas.List.{take-append-drop, take_all, take_more, flat_map_more, get_or-map}
use Rattle.std.proofs.lemmas.{Option.{get_or_from_slice_get, slice_get_within}, Bool.{cases_eq, cases_lt}, Grind.{flat_map-append}}
use Rattle.kalah_run.specs.{Entry, OutcomeState, Taken, Refusal, text_of_job, written_up_to, CollectingState, taken_of, written_so_far, IsUnderWay, IsNew, HasBeenOffered, HasWritten, WritesOn, declared.batch.ordered_output.OrderedOutput.{OrderedOutput}}
use Rattle.kalah_jobs.specs.Files.{JobList.{JobsState, job_list, jobs_from, file_jobs, line_job, entries_of, entry_at}, Lines.{line_feed}}
use Rattle.kalah_jobs.specs.Files.{NamedBytes.{NamedBytes}, Jobs.{job_count}}
use Rattle.kalah_jobs.specs.Collecting.AnyOrder.{IsPermutationOfJobs}
use Rattle.kalah_jobs.specs.Collecting.CollectorState.{ArrivalsState, no_file, state_of, front, HasEnded, HasNoNext, with_one_taken, new_files}
use Rattle.kalah_jobs.specs.Collecting.CollectorState.{after_take}
use Rattle.kalah_jobs.specs.Collecting.CollectorEvents.{Offers, Takes, answered_line}
use Rattle.kalah_jobs.specs.Writing.{Sink.{SinkState, WasGiven}, Answer.{answer_line}}
use Rattle.kalah_jobs.specs.Writing.Output.{text_of_line, text_of_file, text_of_jobs, taken_output, names_of}
use Rattle.kalah_jobs.proofs.{SinkLemmas.{given_none, given_then, given_then_flush, given_more_after_failure}, CollectingLemmas.{files_many, lines_are, new_files_agree, taken_is, new_taken, fronts_full, kept_by_offer, kept_by_take}, FilesLemmas.{length-job_list, lines_between, slice_get-job_list}}
use Rattle.std.specs.List.{flat_map, enumerate_from}

-- ==== The loop that writes each line once it is ready and all before it were written

-- what is written, line by line and file by file
module _ (text : ℕ → Taken → List ℕ) (jobs : JobsState) where
  -- the texts of the jobs of one file
  texts_of_lines : (f n : ℕ) (own : List Entry)
      → flat_map (text_of_job text) (file_jobs f n own) ≡ flat_map (text_of_line text f) (enumerate_from n own)
  texts_of_lines f n [] = refl
  texts_of_lines f n (e ∷ own) = rw add-one (ap (text_of_line text f (n, e) ++◌) (texts_of_lines f (suc n) own))

  -- those of all jobs, from file f on
  pub texts_from : (f : ℕ) (files : JobsState)
      → flat_map (text_of_job text) (jobs_from f files) ≡ flat_map (text_of_file text) (enumerate_from f files)
  texts_from f [] = refl
  texts_from f (own ∷ files) =
      rw add-one (flat_map-append (text_of_job text) (file_jobs f 0 own) (jobs_from (suc f) files)
      ∙ λ i. texts_of_lines f 0 own i ++ texts_from (suc f) files i)

  -- one line more of the file is written
  written_with_next_line : (f n : ℕ) (e : Entry) → entry_at jobs f n ≡ Some e
      → written_up_to text jobs f n ++ text f (answered_line (n, e)) ≡ written_up_to text jobs f (n + 1)
  unfolding written_up_to
  written_with_next_line f n e entry_is =
      let all = job_list jobs in
      let T = text_of_job text in
      let m = job_count (take f jobs) + n in
      let o = line_job f n e in
      let job_is : slice_get all m ≡ Some o = slice_get-job_list jobs f n m e refl entry_is in
      let next : m + 1 ≡ job_count (take f jobs) + (n + 1) = omega arith in
      flat_map_more T [] (take m all) o
      ∙ ap (λ x. flat_map T (take m all ++ x ∷ [])) (sym (get_or_from_slice_get all m o o job_is))
      ∙ ap (flat_map T) (sym (take_more all m o (slice_get_within all m o job_is)))
      ∙ ap (λ k. flat_map T (take k all)) next

  -- all lines of the file are written
  written_with_whole_file : (f : ℕ) → f < length jobs
      → written_up_to text jobs f (length (entries_of jobs f)) ≡ written_up_to text jobs (f + 1) 0
  unfolding written_up_to
  written_with_whole_file f low =
      let next : job_count (take f jobs) + length (entries_of jobs f) ≡ job_count (take (f + 1) jobs) + 0 =
      omega (arith, lines_between jobs f low) in
      ap (λ k. flat_map (text_of_job text) (take k (job_list jobs))) next

  -- past the last file all lines are written
  written_past_last_file : (f n : ℕ) → length jobs ≤ f → written_up_to text jobs f n ≡ text_of_jobs text jobs
  unfolding written_up_to
  written_past_last_file f n high =
      ap (flat_map (text_of_job text)) (take_all (job_count (take f jobs) + n) (job_list jobs)
      (omega (arith, length-job_list jobs, ap job_count (take_all f jobs high))))
      ∙ texts_from 0 jobs

  -- what is written is the first part of all
  written_is_first_part : (f n : ℕ) → (rest : List ℕ) × (written_up_to text jobs f n ++ rest ≡ text_of_jobs text jobs)
  unfolding written_up_to
  written_is_first_part f n =
      let m = job_count (take f jobs) + n in
      let T = text_of_job text in (
        flat_map T (drop m (job_list jobs)),
        sym (flat_map-append T (take m (job_list jobs)) (drop m (job_list jobs)))
            ∙ ap (flat_map T) (take-append-drop m (job_list jobs)) ∙ texts_from 0 jobs,
      )

  -- nothing was offered and nothing taken
  under_way_at_start : {W : Type 0} (state : W → SinkState) (begun : W)
      → IsUnderWay state text (record { jobs = jobs; past = []; files = new_files jobs; current = 0 }) begun begun
  unfolding written_up_to
  under_way_at_start state begun =
      record {
        kept = new_files_agree jobs;
        before = λ g low. absurd (omega arith);
        later = λ g high. new_taken jobs g;
        written = rw new_taken (given_none state begun);
      }

-- a step of a batch that is under way
module _ {W : Type 0} {state : W → SinkState} {text : ℕ → Taken → List ℕ} {p : CollectingState} {begun out : W}
    (under_way : IsUnderWay state text p begun out) where
  open p use {jobs, past, files, current}

  -- A line is taken, and its text given to the sink.
  pub under_way_after_line : {after : List ArrivalsState} {t : Taken} {more : W} → Takes files current (Some t) after
      → WasGiven state out more (text current t) → IsUnderWay state text (record p { files = after }) begun more
  under_way_after_line {after} {t} {more} step given =
      let n = taken_of p current in
      let one_more = with_one_taken (state_of files current) in
      let now : CollectingState = record p { files = after_take files current } in
      let same_taken : (g : ℕ) → (g ≡ current → ⊥) → taken_of now g ≡ taken_of p g =
      λ g other. ap (λ s. s.taken) (get_or-set_other files current g one_more no_file other) in
      let offer = under_way.kept.offered.only current t.line t.answer step.next_line.came in
      let line : t.line ≡ n = step.next_line.first in
      let entry_is : entry_at jobs current n ≡ Some offer.entry = ap (entry_at jobs current) (sym line) ∙ offer.entry_is in
      let taken : taken_of now current ≡ n + 1 =
      ap (λ s. s.taken) (get_or-set_same files current one_more no_file step.file_there) in
      let text_is : written_so_far text p ++ text current t ≡ written_so_far text now =
      ap (λ x. written_so_far text p ++ text current x) (taken_is t n offer.entry line offer.answer_is)
      ∙ written_with_next_line text jobs current n offer.entry entry_is
      ∙ ap (written_up_to text jobs current) (sym taken) in
      let new : IsUnderWay state text now begun more = record {
        kept = rw step.kept at (kept_by_take under_way.kept current t step);
        before = λ g low. same_taken g (λ q. omega arith) ∙ under_way.before g low;
        later = λ g high. same_taken g (λ q. omega arith) ∙ under_way.later g high;
        written = rw text_is at (given_then state under_way.written given);
      } in
      rw step.kept new

  pub under_way_after_no_line : {after : List ArrivalsState} → Takes files current None after
      → IsUnderWay state text (record p { files = after }) begun out
  under_way_after_no_line step = rw step.unchanged under_way

  -- a file is completely written, and the next becomes the current one
  pub under_way_in_next_file : current < length files → HasEnded (state_of files current) → HasNoNext (state_of files current)
      → IsUnderWay state text (record p { current = current + 1 }) begun out
  under_way_in_next_file low ended all =
      let next : CollectingState = record p { current = current + 1 } in
      let up : taken_of p current ≤ front (state_of files current) = under_way.kept.within current in
      let counts = under_way.kept.offered.counts in
      let whole : taken_of p current ≡ length (entries_of jobs current) =
      omega (arith, lines_are jobs files counts current) in
      let jobs_low : current < length jobs = omega (arith, files_many jobs files counts) in
      let none : taken_of next (current + 1) ≡ 0 = under_way.later (current + 1) (omega arith) in
      let text_is : written_so_far text p ≡ written_so_far text next =
      ap (written_up_to text jobs current) whole
      ∙ written_with_whole_file text jobs current jobs_low
      ∙ ap (written_up_to text jobs (current + 1)) (sym none) in
      record {
        kept = under_way.kept;
        before = λ g g_low.
            ⊎_elim
            (λ (same : g ≡ current). rw same whole)
            (λ (other : g ≡ current → ⊥). under_way.before g (omega arith))
            (cases_eq g current);
        later = λ g g_high. under_way.later g (omega arith);
        written = rw text_is at under_way.written;
      }

  -- an outcome is offered, and accepted or refused: what was written stays
  pub under_way_after_offer : (o : OutcomeState) (after : List ArrivalsState) (result : Result ℕ Refusal) → Offers jobs files o result after
      → IsUnderWay state text (record p { past = past ++ o ∷ []; files = after }) begun out
  under_way_after_offer o after result step =
      let now = kept_by_offer under_way.kept o result step in
      record {
        kept = now.0;
        before = λ g low. now.1 g ∙ under_way.before g low;
        later = λ g high. now.1 g ∙ under_way.later g high;
        written = rw (now.1 current) under_way.written;
      }

  -- nothing more is given to the sink: what was written stays
  pub under_way_after_no_text : {later : W} → WasGiven state out later [] → IsUnderWay state text p begun later
  under_way_after_no_text none = record {
    kept = under_way.kept;
    before = under_way.before;
    later = under_way.later;
    written = given_then_flush state under_way.written none;
  }

  -- a sink that has failed was given all, as far as it took it
  pub failed_sink_was_given_all : (state out).has_failed ≡ true → WasGiven state begun out (text_of_jobs text jobs)
  failed_sink_was_given_all failed =
      let all = written_is_first_part text jobs current (taken_of p current) in
      rw all.1 at (given_more_after_failure state all.0 under_way.written failed)

  -- Each job was offered once, and the current file, if there is one, has not ended: then the sink was given all.
  pub sink_was_given_all : IsPermutationOfJobs jobs past → (current < length files → HasEnded (state_of files current) → ⊥)
      → WasGiven state begun out (text_of_jobs text jobs)
  sink_was_given_all each waits =
      let past_last : length files ≤ current = ⊎_elim
      (λ low. absurd (waits low (fronts_full each under_way.kept.offered current)))
      (λ high. high)
      (cases_lt current (length files)) in
      let many : length files ≡ length jobs = files_many jobs files under_way.kept.offered.counts in
      rw (written_past_last_file text jobs current (taken_of p current) (omega arith)) at under_way.written

-- ==== What an output writes, line by line

-- the text of a line of file f begins with that file's name
pub text_of_taken : (files : List NamedBytes) (f : ℕ) (file : NamedBytes) (name : List ℕ) (taken : Taken) → f < length files
    → file ≡ get_or files f file → name ≡ file.name → taken_output (names_of files) f taken ≡ answer_line name taken ++ line_feed ∷ []
text_of_taken files f file name taken low file_is name_is =
    ap (λ n. answer_line n taken ++ line_feed ∷ [])
    (get_or-map (λ x. x.name) files f file [] low ∙ sym (ap (λ x. x.name) file_is) ∙ sym name_is)

-- with what is known of a sink
module _ {W : Type 0} {state : W → SinkState} where
  -- what became ready is written, and then more of it
  pub writes_then : {first between last : OrderedOutput} {begun out more : W} → WritesOn state first begun between out
      → last.files.now ≡ between.files.now → last.jobs.now ≡ between.jobs.now
      → ((past : List OutcomeState) (b : W) → HasWritten state past b out between → HasWritten state past b more last)
      → WritesOn state first begun last more
  writes_then so_far files jobs step = record {
    same_files = files ∙ so_far.same_files;
    same_jobs = jobs ∙ so_far.same_jobs;
    writes = λ was. step _ _ (so_far.writes was);
  }

  -- an outcome is offered: what was written stays
  pub written_after_offer : {past : List OutcomeState} {begun out : W} {old new : OrderedOutput} (outcome : OutcomeState)
      → HasBeenOffered old outcome new → HasWritten state past begun out old → HasWritten state (past ++ outcome ∷ []) begun out new
  written_after_offer {new = new} outcome offered was =
      rw (offered.files, offered.jobs, offered.current)
      (under_way_after_offer was outcome new.collector offered.offers.0 offered.offers.1)

  -- a new output has written nothing
  pub new_has_written_nothing : (begun : W) (r : OrderedOutput) → IsNew r → HasWritten state [] begun begun r
  new_has_written_nothing begun r new = rw (new.0, new.1) (under_way_at_start (taken_output (names_of r.files.now)) r.jobs.now state begun)
