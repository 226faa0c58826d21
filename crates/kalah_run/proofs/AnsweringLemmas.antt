-- What a batch answers: the output of its files, each result, and a batch whose files have no line.
use Rattle.std.proofs.{Common.{[], IfErr, ◌≡◌, ℕ, List, ◌++◌, arith, sym, ap, ◌∙◌, true, false, refl, length, take, inl, inr, Some, Option, None, Result, Ok, Err, OnOk, count_by, IfOk, flat_map}, lemmas.List.{nil_from_length, append-nil}, Math.Seq.{take-nil}, KnownBytes.{Keeps-refl}}
use Rattle.kalah_run.specs.{Tally, Question, text_of_job, whole_output, AnswersBatch, tally_of_jobs, AnswersNothing, declared.batch.{ordered_output.OrderedOutput.{OrderedOutput}, run_fault.RunFault.{RunFault, TheVariants.{TooManyFiles, TooManyLines, OutOfMemory, NoWorker, Write}}}}
use Rattle.kalah_jobs.specs.{Files.{JobList.{JobsState, job_list, is_faulty_job}, NamedBytes.{NamedBytes}, Jobs.{MakesJobs, job_count, jobs_for, lines_in_all}}, Writing.{Sink.{SinkState, WasGiven}, Output.{taken_output, output_for, output_of_jobs, names_of, tally_of}}}
use Rattle.std.specs.Io.KnownBytes.{Appends, Keeps}
use Rattle.kalah_jobs.proofs.{WritingLemmas.{files_are_their_jobs}, FilesLemmas.{length-job_list, job_count-jobs_for}}
use Rattle.kalah_run.proofs.OutputLemmas.{texts_from}

-- the output of the jobs of the files is that of the files
pub whole_output_is : (question : Question) (files : List NamedBytes) (r : OrderedOutput) → r.files.now ≡ files
    → r.jobs.now ≡ jobs_for question files → whole_output r ≡ output_for question files
whole_output_is question files r of_files of_jobs =
    (λ i. output_of_jobs (names_of (of_files i)) (of_jobs i)) ∙ sym (files_are_their_jobs.output question files)

-- there are as many jobs as lines
pub as_many_jobs : (question : Question) (files : List NamedBytes) {jobs : JobsState} → jobs ≡ jobs_for question files
    → job_count jobs ≡ lines_in_all files
as_many_jobs question files value = ap job_count value ∙ job_count-jobs_for question files

counted_tally : (question : Question) (files : List NamedBytes) → tally_of_jobs (jobs_for question files) ≡ tally_of files
counted_tally question files = λ i. record {
  lines = sym (files_are_their_jobs.lines question files) i;
  faults = sym (files_are_their_jobs.faults question files) i;
}

-- ==== What a batch promises

module _ {W : Type 0} (state : W → SinkState) (question : Question) (files : List NamedBytes) (old : W) where
  -- a batch keeps its promise if the sink was given the answers to all lines, and either all is flushed or a write failed
  pub answered : {jobs : JobsState} → MakesJobs question files (Ok jobs) → (new : W) (result : Result Tally RunFault)
      → WasGiven state old new (output_for question files) → IfOk result (λ tally. tally ≡ tally_of_jobs jobs)
      → OnOk result (((state new).has_failed ≡ false) × ((state new).is_flushed ≡ true))
      → IfErr result (λ e. (e ≡ Write) × ((state new).has_failed ≡ true))
      → AnswersBatch state (output_for question files) files old new result
  answered made new (Ok tally) given counted sound fault = record {
    few = made.0;
    written = (given.whole sound.0).1;
    not_failed = sound.0;
    flushed = sound.1;
    counted = counted ∙ ap tally_of_jobs made.1 ∙ counted_tally question files;
  }
  answered made new (Err e) given counted sound fault = rw fault.0 (made.0, given.start, fault.1)

-- ==== The result of a batch whose files have no line follows from that of a batch of any files

-- if nothing was added, all was kept
appends_none : (old new : Option (List ℕ)) (bytes : List ℕ) → bytes ≡ [] → Appends old new bytes → Keeps old new
appends_none None new bytes none appends = tt
appends_none (Some xs) None bytes none appends = absurd appends
appends_none (Some xs) (Some ys) bytes none appends = appends ∙ (ap (xs ++◌) none ∙ append-nil xs)

-- a sink that is as it was keeps what it has
left_same : {W : Type 0} (state : W → SinkState) {old new : W} → new ≡ old → Keeps (state old).written (state new).written
left_same state {old} same = rw same (Keeps-refl (state old).written)

module _ (question : Question) (files : List NamedBytes) (none : lines_in_all files ≡ 0) where
  no_jobs : job_list (jobs_for question files) ≡ []
  no_jobs = nil_from_length (job_list (jobs_for question files))
      (length-job_list (jobs_for question files) ∙ job_count-jobs_for question files ∙ none)

  pub no_output : output_for question files ≡ []
  no_output =
      files_are_their_jobs.output question files
      ∙ sym (texts_from (taken_output (names_of files)) (jobs_for question files) 0 (jobs_for question files))
      ∙ ap (flat_map (text_of_job (taken_output (names_of files)))) no_jobs

  pub nothing_answered : {W : Type 0} (state : W → SinkState) (old new : W) (result : Result Tally RunFault)
      → AnswersBatch state (output_for question files) files old new result → AnswersNothing (state old).written (state new).written result
  nothing_answered state old new (Ok tally) answers = record {
    unwritten = appends_none _ _ _ no_output answers.written;
    uncounted = answers.counted ∙ sym (counted_tally question files)
        ∙ ap (λ l. let c : Tally = record { lines = length l; faults = count_by is_faulty_job l } in c) no_jobs;
    fault = tt;
  }
  nothing_answered state old new (Err TooManyFiles) answers = record { unwritten = left_same state answers.1.0; uncounted = tt; fault = inl refl }
  nothing_answered state old new (Err TooManyLines) answers = absurd (omega (arith, answers.1))
  nothing_answered state old new (Err OutOfMemory) answers = record { unwritten = left_same state answers.1.0; uncounted = tt; fault = inr (inl refl) }
  nothing_answered state old new (Err NoWorker) answers = absurd (omega (arith, answers.1))
  nothing_answered state old new (Err Write) answers = record {
    unwritten = appends_none _ _ _ (ap (take answers.1.0) no_output ∙ take-nil answers.1.0) answers.1.1;
    uncounted = tt;
    fault = inr (inr refl);
  }
