-- What a command prints, by the status with which it ends.
use Rattle.std.specs.{Prelude.{◌≡◌, ◌≢◌, ℕ, List, false, true}, Io.KnownBytes.{Appends}}
use Rattle.kalah_rules.specs.Position.{Position}
use Rattle.kalah_jobs.specs.{Line.Line.{Reads}, Writing.Sink.{AppendsPrefix, SinkState, WasGiven}}
use Rattle.kalah_cli.specs.Exit.{Ends.{FailsOrFlushes}, Status.{ExitStatus, Failed, LineFaults}}

-- no position is written by the line
abbrev pub WritesNoPosition : List ℕ → Type 0
WritesNoPosition line = (p : Position) → Reads line p → ⊥

module _ {O : Type 0} (state : O → SinkState) (old new : O) where
  -- the text was given to the output, and flushed
  pub record IsPrinted (text : List ℕ) : Type 0 where
    pub given : WasGiven state old new text
    pub all_flushed : (state new).has_failed ≡ false → (state new).is_flushed ≡ true

  module _ (status : ExitStatus) where
    -- the text was written, if the program did not fail; in any case a prefix of it was, and nothing else
    pub record PrintsByStatus (text : List ℕ) : Type 0 where
      pub start : AppendsPrefix (state old).written (state new).written text
      pub whole : status ≢ Failed → Appends (state old).written (state new).written text

    -- what a request about a line does: it prints the text of the position that the line writes, and nothing if the line writes none
    pub record PrintsForLine (line : List ℕ) (text : Position → List ℕ) : Type 0 where
      pub read : (p : Position) → Reads line p → (status ≢ LineFaults) × PrintsByStatus (text p)
      pub unread : WritesNoPosition line → (status ≡ LineFaults) × (new ≡ old)
      pub ends : FailsOrFlushes state old new status
