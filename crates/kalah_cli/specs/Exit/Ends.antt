-- How a run ends.
use Rattle.std.specs.Prelude.{◌≡◌, ◌≢◌, false, true, Result, Ok, Err}
use Rattle.kalah_jobs.specs.Writing.Sink.{SinkState}
use Rattle.kalah_cli.specs.{declared.exit.failure.Failure.{Failure}, Exit.Status.{ExitStatus, Failed}}

-- the status of a program that ended so, or failed
abbrev pub exit_status_of : Result ExitStatus Failure → ExitStatus
exit_status_of (Ok status) = status
exit_status_of (Err failure) = Failed

-- the program failed, and its output is as it was
abbrev pub FailsWithoutOutput : {O : Type 0} → O → O → ExitStatus → Type 0
FailsWithoutOutput old new status = (status ≡ Failed) × (new ≡ old)

-- If a write failed, the program failed. If it failed for another cause, nothing was written. If it did not fail, all that was written
-- is flushed, if all was before.
module _ {O : Type 0} (state : O → SinkState) (old new : O) (status : ExitStatus) where
  pub record FailsOrFlushes : Type 0 where
    pub failed : (state new).has_failed ≡ true → status ≡ Failed
    pub unchanged : status ≡ Failed → (state new).has_failed ≡ false → new ≡ old
    pub all_flushed : status ≢ Failed → (state old).is_flushed ≡ true → (state new).is_flushed ≡ true
