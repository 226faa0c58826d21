-- What `kalah solve`, `kalah values` and `kalah steps` write, by the names of its files.
use Rattle.std.specs.{Prelude.{◌≡◌, ◌≢◌, ◌↔◌, ◌⊎◌, ◌==◌, ℕ, All, Bool, false, List, map}, List.{list_any}}
use Rattle.kalah_jobs.specs.{Files.{Lines.{line_feed}, NamedBytes.{NamedBytes}}, Writing.{Output.{output_for, tally_of}, Sink.{SinkState}}, declared.files.question.Question.{Question}}
use Rattle.kalah_cli.specs.{Commands.Printing.{PrintsByStatus}, Exit.{Ends.{FailsOrFlushes, FailsWithoutOutput}, Status.{ExitStatus, Clean, Failed}}, System.Sources.{Source, file_named}}

-- the name has a line feed in it
abbrev pub has_line_feed : List ℕ → Bool
has_line_feed name = list_any (λ byte. byte == line_feed) name

-- What a request about files does. There are files of these names, in order. Of the answers to their lines a prefix was written, and all
-- unless it failed. Unless it failed without output, each file may give its bytes. Unless it failed, no name has a line feed in it, and
-- the status is clean exactly if no line has a fault.
module _ {O : Type 0} (state : O → SinkState) (old new : O) (status : ExitStatus)
    (may_give : Source → List ℕ → Type 0) where
  pub record AnswersFiles (question : Question) (names : List (List ℕ)) : Type 0 where
    pub files : List NamedBytes
    pub named : map (λ file. file.name) files ≡ names
    pub given : FailsWithoutOutput old new status ⊎ All (λ file. may_give (file_named file.name) file.bytes) files
    pub printed : PrintsByStatus state old new status (output_for question files)
    pub no_line_feed : status ≢ Failed → list_any has_line_feed names ≡ false
    pub clean : status ≢ Failed → status ≡ Clean ↔ (tally_of files).faults ≡ 0
    pub ends : FailsOrFlushes state old new status
