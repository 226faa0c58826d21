-- Types that definitions and proofs of several files name, passed on from one place. Declares nothing.
pub use Rattle.kalah_jobs.specs.declared.files.question.Question.{Question}
pub use Rattle.kalah_jobs.specs.declared.files.entry.Entry.{Entry}
pub use Rattle.kalah_jobs.specs.Files.JobList.{JobsState}
pub use Rattle.kalah_jobs.specs.declared.files.job.Job.{Job}
pub use Rattle.kalah_jobs.specs.declared.writing.answer.Taken.{Taken}
pub use Rattle.kalah_jobs.specs.declared.writing.tally.Tally.{Tally}
pub use Rattle.kalah_jobs.specs.declared.collecting.refusal.Refusal.{Refusal}
pub use Rattle.kalah_jobs.specs.Collecting.OutcomeState.{OutcomeState}
pub use Rattle.kalah_run.specs.declared.desk.protocol.DrawnRow.{DrawnRow}
pub use Rattle.kalah_run.specs.declared.desk.protocol.DeskPlan.{DeskPlan}
pub use Rattle.kalah_run.specs.declared.desk.protocol.DeskView.{DeskView}
pub use Rattle.kalah_run.specs.declared.queue.protocol.QueueView.{QueueView}
