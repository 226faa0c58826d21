-- The jobs of a batch in any order, and what follows if each is offered once.
use Rattle.std.specs.Prelude.{◌≡◌, ℕ, List, ◌∷◌, ◌++◌, length, map, count_by, slice_index_or, Bool, Result, IsOk}
use Rattle.kalah_jobs.specs.{Collecting.{CollectorEvents.{Event, offered_in, Offers}, CollectorLaw.{IsAfterEvents}, CollectorState.{ArrivalsState, state_of, HasEnded, new_files}, OutcomeState.{OutcomeState}, Shares.{AreShared}}, Files.JobList.{JobsState, no_job, job_list}, Types.{Refusal, Job}}

-- job number n, and `no_job` past the last one
abbrev pub job : JobsState → ℕ → Job
job jobs n = slice_index_or (job_list jobs) n no_job

-- The list has each job once and nothing else, in some order: for each test, the number of offers that pass equals that of the jobs.
pub record IsPermutationOfJobs (jobs : JobsState) (got : List OutcomeState) : Type 0 where
  pub same_counts : (p : OutcomeState → Bool) → count_by p got ≡ count_by p (job_list jobs)

-- If each job was drawn once and sent by the worker that drew it, and all jobs were received, each job was received once.
abbrev pub GetsEachJobOnce : Type 0
GetsEachJobOnce = (jobs : JobsState) (rows : List (List ℕ)) (got rest : List (ℕ × OutcomeState))
    → AreShared (length (job_list jobs)) (job jobs) rows (got ++ rest) → length got ≡ length (job_list jobs) →
    IsPermutationOfJobs jobs (map (λ t. t.1) got)

-- If each job is offered once, in any order and with any takes between, each offer is accepted.
abbrev pub AcceptsEachJob : Type 0
AcceptsEachJob = (jobs : JobsState) (past : List Event) (o : OutcomeState) (rest : List OutcomeState)
    (files after : List ArrivalsState) (result : Result ℕ Refusal) → IsPermutationOfJobs jobs (offered_in past ++ o ∷ rest)
    → IsAfterEvents jobs (new_files jobs) past files → Offers jobs files o result after → IsOk result

-- If each job was offered once, every line of every file is ready.
abbrev pub MakesEveryLineReady : Type 0
MakesEveryLineReady = (jobs : JobsState) (events : List Event) (files : List ArrivalsState)
    → IsPermutationOfJobs jobs (offered_in events) → IsAfterEvents jobs (new_files jobs) events files
    → (f : ℕ) → HasEnded (state_of files f)
