-- What a batch promises, for each question.
use Rattle.std.specs.{Prelude.{◌≡◌, ◌<◌, ◌≤◌, ℕ, List, Bool, Result, Ok, Err, length, count_by, true, false, IfErr, ◌⊎◌, Option, IfOk}, Io.KnownBytes.{Appends, Keeps}}
use Rattle.kalah_jobs.specs.{Writing.{Sink.{AppendsPrefix, SinkState}, Output.{tally_of, output_for}}, Limits.{most_files, most_lines}, Files.{Jobs.{AreWithinBatchLimits, lines_in_all}, JobList.{JobsState, job_list, is_faulty_job}, NamedBytes.{NamedBytes}}, declared.files.jobs.JobsFault.{JobsFault}}
use Rattle.kalah_run.specs.{Types.{Tally, Question}, declared.batch.run_fault.RunFault.{RunFault, TheVariants.{TooManyFiles, TooManyLines, OutOfMemory, NoWorker, Write}}}
use Rattle.kalah_jobs.specs.declared.files.jobs.JobsFault.TheVariants as jobs

-- the fault of a batch whose jobs could not be made
abbrev pub run_fault_of : JobsFault → RunFault
run_fault_of jobs.TooManyFiles = TooManyFiles
run_fault_of jobs.TooManyLines = TooManyLines
run_fault_of jobs.OutOfMemory = OutOfMemory

-- the lines of these jobs, and those of them that are answered by a fault
abbrev pub tally_of_jobs : JobsState → Tally
tally_of_jobs jobs = record { lines = length (job_list jobs); faults = count_by is_faulty_job (job_list jobs) }

-- The gate hears of the job of each line, unless the batch failed otherwise than by a write.
abbrev pub HearsAll : (ℕ → Bool) → List NamedBytes → Result Tally RunFault → Type 0
HearsAll knows files result = IfErr result (λ e. e ≡ Write) → (job : ℕ) → job < lines_in_all files → knows job ≡ true

-- The lines of these files have this output, and a sink was `old` before they were answered and is `new` afterwards.
module _ {W : Type 0} (state : W → SinkState) (output : List ℕ) (files : List NamedBytes) (old new : W) where
  -- the sink is as it was, and has not failed
  abbrev pub IsUntouched : Type 0
  IsUntouched = (new ≡ old) × ((state new).has_failed ≡ false)

  -- the output was written, and nothing else, all of it is flushed, and lines and faults are counted
  pub record AnswersAll (tally : Tally) : Type 0 where
    pub few : AreWithinBatchLimits files
    pub written : Appends (state old).written (state new).written output
    pub not_failed : (state new).has_failed ≡ false
    pub flushed : (state new).is_flushed ≡ true
    pub counted : tally ≡ tally_of files

  -- what each result says
  abbrev pub AnswersBatch : Result Tally RunFault → Type 0
  AnswersBatch (Ok tally) = AnswersAll tally
  AnswersBatch (Err TooManyFiles) = (most_files < length files) × IsUntouched
  AnswersBatch (Err TooManyLines) = (length files ≤ most_files) × (most_lines < lines_in_all files) × IsUntouched
  AnswersBatch (Err OutOfMemory) = AreWithinBatchLimits files × IsUntouched
  AnswersBatch (Err NoWorker) = AreWithinBatchLimits files × (0 < lines_in_all files) × IsUntouched
  -- a prefix of the output was written, and nothing else
  AnswersBatch (Err Write) = AreWithinBatchLimits files × AppendsPrefix (state old).written (state new).written output
      × ((state new).has_failed ≡ true)

-- ==== The result of a batch whose files have no line

-- Nothing is written, and no line and no fault is counted, unless one of three faults comes instead.
pub record AnswersNothing (old new : Option (List ℕ)) (result : Result Tally RunFault) : Type 0 where
  pub unwritten : Keeps old new
  pub uncounted : IfOk result (λ tally. tally ≡ record { lines = 0; faults = 0 })
  pub fault : IfErr result (λ e. (e ≡ TooManyFiles) ⊎ (e ≡ OutOfMemory) ⊎ (e ≡ Write))

-- So it is with every batch that keeps its promises, for each question and a sink of any kind.
abbrev pub NoLineIsAnswered : {W : Type 0} → (W → SinkState) → Type 0
NoLineIsAnswered {W} state = (question : Question) (files : List NamedBytes) (old new : W) (result : Result Tally RunFault)
    → AnswersBatch state (output_for question files) files old new result → lines_in_all files ≡ 0
    → AnswersNothing (state old).written (state new).written result
