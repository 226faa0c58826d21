-- Types, and variants of some, that definitions and proofs of several files name, passed on from one place. Declares nothing.
pub use Rattle.kalah_rules.specs.declared.rule.Rule.{Rule, TheVariants.{Classic, EmptyCapture}}
pub use Rattle.kalah_solve.specs.declared.solver.move_values.MoveValue.{MoveValue}
pub use Rattle.kalah_jobs.specs.declared.files.question.Question.{Question, TheVariants.{BestMove}}
pub use Rattle.kalah_jobs.specs.declared.files.entry.Entry.{Entry, TheVariants.{Position as BestMoveOf, ValuesOf, StepsOf, Bad}}
pub use Rattle.kalah_jobs.specs.declared.files.job.Job.{Job}
pub use Rattle.kalah_jobs.specs.declared.line.line_fault.LineFault.{LineFault, TheVariants.{Long, Empty, Shape, Houses, Seeds}}
pub use Rattle.kalah_jobs.specs.declared.writing.answer.{Answer.{Answer}, Taken.{Taken}}
pub use Rattle.kalah_jobs.specs.declared.writing.tally.Tally.{Tally}
pub use Rattle.kalah_jobs.specs.declared.writing.player.Player.{Player, TheVariants.{Mover, Other}}
pub use Rattle.kalah_jobs.specs.declared.collecting.refusal.Refusal.{Refusal}
pub use Rattle.kalah_jobs.specs.declared.asking.ask_fault.AskFault.{AskFault, TheVariants.{Read, Write}}
