-- What `kalah ask` writes for the bytes that a reader had left, if these are known. Of the standard input they aren't.
use Rattle.std.specs.Prelude.{◌≡◌, ◌≢◌, ◌↔◌, ℕ, List, Bool, Option, false, true}
use Rattle.kalah_jobs.specs.{Asking.{IsAnswered, IsBegun, IsCutOff}, declared.files.question.Question.{Question}, Writing.Sink.{SinkState}}
use Rattle.kalah_cli.specs.{Exit.Status.{ExitStatus, Clean, Failed}, System.Sources.{MayBeLeft, Source, standard_input}}

-- the answers to lines that were read completely were written, and nothing else
abbrev pub StopsBetweenLines : Question → Option (List ℕ) → Option (List ℕ) → Type 0
StopsBetweenLines question old new = (unread left : Option (List ℕ)) × IsCutOff question unread left old new

-- what `ask` does: it answers all lines, unless it fails, and is clean exactly when no line is a fault. In any case a prefix of the answers
-- was written, and nothing else. If a write failed, it failed. If it failed for another cause, it stopped between two lines. If no write
-- failed, all that was written is flushed, if all was before
module _ {O : Type 0} (state : O → SinkState) (old new : O) (status : ExitStatus) where
  pub record AnswersInput (question : Question) (unread : Option (List ℕ)) : Type 0 where
    pub left : Option (List ℕ)
    pub all_read : Bool
    pub asked : status ≢ Failed
        → IsAnswered question unread left (state old).written (state new).written all_read × (status ≡ Clean ↔ all_read ≡ true)
    pub begins : IsBegun question unread left (state old).written (state new).written
    pub failed : (state new).has_failed ≡ true → status ≡ Failed
    pub stopped : status ≡ Failed → (state new).has_failed ≡ false
        → IsCutOff question unread left (state old).written (state new).written
    pub all_flushed : (state new).has_failed ≡ false → (state old).is_flushed ≡ true → (state new).is_flushed ≡ true

  -- so it does of the standard input, which may give these bytes
  pub record AnswersStandardInput (may_give : Source → List ℕ → Type 0) (question : Question) : Type 0 where
    pub unread : Option (List ℕ)
    pub given : MayBeLeft (may_give standard_input) unread
    pub answered : AnswersInput question unread
