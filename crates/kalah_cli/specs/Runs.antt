-- What the program does for each request.
use Rattle.std.specs.{Prelude.{◌≡◌, ◌≢◌, ◌++◌, ◌∷◌, ◌⊎◌, ℕ, List, [], codes, false, true, ⊤}, Io.KnownBytes.{Appends}}
use Rattle.clap.specs.{Words.{Text}, declared.error.kind.ErrorKind.{ErrorKind, TheVariants.{DisplayHelp, DisplayVersion}}}
use Rattle.kalah_rules.specs.Position.{Position}
use Rattle.kalah_jobs.specs.{Files.Lines.{line_feed}, Line.Line.{Reads}, Writing.Sink.{SinkState}}
use Rattle.kalah_cli.specs.Arguments.Request.{Task, DoesNotAskFor, MakesNoRequest, IsAcceptedAs, Question}
use Rattle.kalah_cli.specs.Arguments.Request.{about_line, about_files, about_input, conflict}
use Rattle.kalah_cli.specs.Commands.{LineCommand.{MayPrint, command_output}, Moves.{moves_output}, Ask.{AnswersStandardInput, StopsBetweenLines}}
use Rattle.kalah_cli.specs.Commands.{Files.{AnswersFiles}, Printing.{PrintsForLine, WritesNoPosition}}
use Rattle.kalah_cli.specs.{Exit.{Ends.{FailsWithoutOutput}, Status.{ExitStatus, Clean, LineFaults, Failed}}, System.Sources.{Source}}

-- nothing is asked of the standard input
abbrev pub NeedsNoInput : Task → Type 0
NeedsNoInput (about_input question table_entries) = ⊥
NeedsNoInput _ = ⊤

-- what is written if the version is asked for: the program's name, its version and a line feed
abbrev pub version_line : Text
version_line = codes "kalah 1.4.0" ++ line_feed ∷ []

-- an argument that is no flag: it isn't empty and doesn't begin with `-` (45)
abbrev pub IsNoFlag : Text → Type 0
IsNoFlag [] = ⊥
IsNoFlag (x ∷ xs) = x ≢ 45

module _ {O : Type 0} (state : O → SinkState) (old new : O) (status : ExitStatus) where
  module _ (may_give : Source → List ℕ → Type 0) where
    -- what the program does for each request. A game that is asked to begin with a house that may not be moved fails without output, and
    -- so do options that exclude each other
    abbrev pub Does : Task → Type 0
    Does (about_line command line) = PrintsForLine state old new status line (command_output command)
        × ((p : Position) → Reads line p → (MayPrint command p → ⊥) → FailsWithoutOutput old new status)
    Does (about_files question workers table_entries progress names) = AnswersFiles state old new status may_give question names
    Does (about_input question table_entries) = AnswersStandardInput state old new status may_give question
    Does conflict = FailsWithoutOutput old new status

    -- accepted arguments: the program does what they ask for (if it fails, a prefix of that), or it fails without output
    abbrev pub DoesWhatIsAsked : List Text → Type 0
    DoesWhatIsAsked arguments = (task : Task) → IsAcceptedAs arguments task → Does task ⊎ FailsWithoutOutput old new status

  -- the words of `moves` without options. It shows that some arguments are accepted, so that `DoesWhatIsAsked` isn't empty
  pub record MovesByItsArguments (arguments : List Text) : Type 0 where
    -- `moves` and a line that can be read: its moves are written, if nothing fails
    pub moves : (name line : Text) → arguments ≡ name ∷ codes "moves" ∷ line ∷ [] → (p : Position) → Reads line p
        → (status ≢ LineFaults) × (status ≡ Clean → Appends (state old).written (state new).written (moves_output false p))
    -- `moves` and a line that can't be read, but is no flag
    pub unread : (name line : Text) → arguments ≡ name ∷ codes "moves" ∷ line ∷ [] → IsNoFlag line → WritesNoPosition line
        → (status ≢ Clean) × (new ≡ old)

  -- how a run ends that makes no request, by what it isn't asked for
  pub record EndsWithoutRequest (IsUnasked : ErrorKind → Type 0) : Type 0 where
    -- neither help nor the version: it fails
    pub usage : IsUnasked DisplayHelp → IsUnasked DisplayVersion → FailsWithoutOutput old new status
    -- no help: with status 0 the version was written, and no more
    pub version : IsUnasked DisplayHelp → status ≡ Clean → Appends (state old).written (state new).written version_line
    -- there is no line
    pub no_line : status ≢ LineFaults

  -- what a run promises of what its sources may give, of its arguments, and of its output before and after it
  pub record KeepsPromises (may_give : Source → List ℕ → Type 0) (arguments : List Text) : Type 0 where
    -- Arguments that make a request: the program does what they ask for (if it fails, in part), or fails and writes nothing.
    pub accepted : DoesWhatIsAsked may_give arguments
    -- The same of `moves LINE`, named by its words.
    pub by_arguments : MovesByItsArguments arguments
    -- Arguments that make no request: the program prints help or the version, or fails.
    pub no_request : MakesNoRequest arguments → EndsWithoutRequest (DoesNotAskFor arguments)
    -- Any arguments: if a write fails, the program fails. If it fails for another cause, it writes nothing, except for answers of `ask`.
    pub failed : (state new).has_failed ≡ true → status ≡ Failed
    pub unchanged : ((task : Task) → IsAcceptedAs arguments task → NeedsNoInput task) → status ≡ Failed
        → (state new).has_failed ≡ false → new ≡ old
    pub stopped : (question : Question) (entries : ℕ) → IsAcceptedAs arguments (about_input question entries) → status ≡ Failed
        → (state new).has_failed ≡ false → StopsBetweenLines question (state old).written (state new).written
    -- If it doesn't fail, all that it writes is flushed.
    pub all_flushed : status ≢ Failed → (state old).is_flushed ≡ true → (state new).is_flushed ≡ true
