-- What a contract sees of an outcome: its job, which determines its parts.
use Rattle.std.proofs.Common.{ap, sym, ◌≡◌}
use Rattle.kalah_jobs.specs.{Collecting.Found.{found_of}, Types.{Job}, declared.collecting.{found.Found.{Found}, outcome.Outcome.TheInside.{Inside}}}

-- the job that the outcome is true of
abbrev pub OutcomeState : Type 0
OutcomeState = Job

-- the one outcome of a job
abbrev pub outcome_of : OutcomeState → Inside
outcome_of job = record { job = job; found = found_of job.entry }

-- what was found is determined by the entry, so the job determines the outcome
pub outcome_again : (o : Inside) → o.found ≡ found_of o.job.entry → outcome_of o.job ≡ o
outcome_again o found = sym (ap (λ (f : Found). let same : Inside = record { job = o.job; found = f } in same) found)
