-- What is known of the output of a batch: what has come, and what was written of it.
use Rattle.std.specs.Prelude.{◌≡◌, ℕ, ◌+◌, ◌<◌, List, Result, length, take, flat_map}
use Rattle.kalah_run.specs.{Types.{Taken, Job, OutcomeState, Refusal}, declared.batch.ordered_output.OrderedOutput.{OrderedOutput}}
use Rattle.kalah_jobs.specs.Files.{JobList.{JobsState, entries_of, job_list}, Jobs.{job_count}}
use Rattle.kalah_jobs.specs.Collecting.{CollectorState.{ArrivalsState, state_of, new_files, HasEnded}, CollectorEvents.{Offers}}
use Rattle.kalah_jobs.specs.Collecting.Held.{AgreeWithOffers}
use Rattle.kalah_jobs.specs.Writing.{Output.{text_of_line, names_of, output_of_jobs, taken_output}, Sink.{SinkState, WasGiven}}

-- the text of a job, if `text` gives the text of what is taken of a file
abbrev pub text_of_job : (ℕ → Taken → List ℕ) → Job → List ℕ
text_of_job text job = text_of_line text job.file (job.line, job.entry)

-- the texts of the jobs of the files before f, and of the first n lines of f
unfoldable pub written_up_to : (ℕ → Taken → List ℕ) → JobsState → ℕ → ℕ → List ℕ
written_up_to text jobs f n = flat_map (text_of_job text) (take (job_count (take f jobs) + n) (job_list jobs))

-- of an output nothing has come, and the first file is the current one
abbrev pub IsNew : OrderedOutput → Type 0
IsNew r = (r.collector ≡ new_files r.jobs.now) × (r.current ≡ 0)

-- what is written of it in the end
abbrev pub whole_output : OrderedOutput → List ℕ
whole_output r = output_of_jobs (names_of r.files.now) r.jobs.now

-- an outcome was offered to its collector, and nothing else changed
pub record HasBeenOffered (old : OrderedOutput) (outcome : OutcomeState) (new : OrderedOutput) : Type 0 where
  pub files : new.files.now ≡ old.files.now
  pub jobs : new.jobs.now ≡ old.jobs.now
  pub current : new.current ≡ old.current
  pub offers : (result : Result ℕ Refusal) × Offers old.jobs.now old.collector outcome result new.collector

-- it waits: the current file, if there is one, has a line that is still to come
abbrev pub AwaitsLine : OrderedOutput → Type 0
AwaitsLine r = r.current < length r.collector → HasEnded (state_of r.collector r.current) → ⊥

-- ==== What the sink of an output was given

-- how far the output of some jobs has come: which were offered, what each file has, and the file whose lines are written next
pub record CollectingState : Type 0 where
  pub jobs : JobsState
  pub past : List OutcomeState
  pub files : List ArrivalsState
  pub current : ℕ

-- how many lines were taken of file f
abbrev pub taken_of : CollectingState → ℕ → ℕ
taken_of p f = (state_of p.files f).taken

-- the texts of the lines that were taken, in order
abbrev pub written_so_far : (ℕ → Taken → List ℕ) → CollectingState → List ℕ
written_so_far text p = written_up_to text p.jobs p.current (taken_of p p.current)

-- the state of an output, once these outcomes were offered
abbrev pub collecting_state_of : List OutcomeState → OrderedOutput → CollectingState
collecting_state_of past r = record { jobs = r.jobs.now; past = past; files = r.collector; current = r.current }

module _ {W : Type 0} (state : W → SinkState) where
  -- The files hold what was offered. Those before the current one are completely taken and those after it not at all. The sink was
  -- given the text of each line that was taken, in order.
  pub record IsUnderWay (text : ℕ → Taken → List ℕ) (p : CollectingState) (begun out : W) : Type 0 where
    pub kept : AgreeWithOffers p.jobs p.past p.files
    pub before : (f : ℕ) → f < p.current → taken_of p f ≡ length (entries_of p.jobs f)
    pub later : (f : ℕ) → p.current < f → taken_of p f ≡ 0
    pub written : WasGiven state begun out (written_so_far text p)

  -- With these outcomes offered, the output has written what is ready of its files, in order, after what the sink had when it began.
  abbrev pub HasWritten : List OutcomeState → W → W → OrderedOutput → Type 0
  HasWritten past begun out r = IsUnderWay (taken_output (names_of r.files.now)) (collecting_state_of past r) begun out

  -- The output is of the same files and jobs. If it had written all that was ready, it has written all that is ready now.
  pub record WritesOn (old : OrderedOutput) (old_sink : W) (new : OrderedOutput) (new_sink : W) : Type 0 where
    pub same_files : new.files.now ≡ old.files.now
    pub same_jobs : new.jobs.now ≡ old.jobs.now
    pub writes : {past : List OutcomeState} {begun : W} → HasWritten past begun old_sink old → HasWritten past begun new_sink new
