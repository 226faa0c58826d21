-- Runs over a disk and a standard input that are known.
use Rattle.std.specs.Prelude.{◌≡◌, ◌≢◌, ◌↔◌, ℕ, Bool, true, List}
use Rattle.clap.specs.Words.{Text}
use Rattle.kalah_jobs.specs.{Asking.{answers_for, are_all_read}, Files.NamedBytes.{NamedBytes}, Writing.Output.{output_for, tally_of}}
use Rattle.kalah_cli.specs.{Arguments.Request.{IsAcceptedAs, about_files, about_input, Question}, System.Sources.{AreFilesOf, known_bytes}, Exit.Status.{ExitStatus, Clean, Failed}}

module _ (status : ExitStatus) (output : List ℕ) where
  -- this output and this status answer the files
  abbrev pub IsAnswerTo : Question → List NamedBytes → Type 0
  IsAnswerTo question files = (output ≡ output_for question files) × (status ≡ Clean ↔ (tally_of files).faults ≡ 0)

  -- this output and this status answer the lines of the standard input
  abbrev pub IsAnswerToLines : Question → List ℕ → Type 0
  IsAnswerToLines question input = (output ≡ answers_for question input) × (status ≡ Clean ↔ are_all_read input ≡ true)

  -- what a run does that wrote this output and nothing else. Unless it failed, both are pinned
  pub record AnswersWhatIsKnown (disk : List NamedBytes) (input : List ℕ) (arguments : List Text) : Type 0 where
    -- `solve`, `values` and `steps`, with any options and names: the named files, in order, each with its bytes on the disk
    pub files : (question : Question) (workers table_entries : ℕ) (progress : Bool) (names : List Text)
        → IsAcceptedAs arguments (about_files question workers table_entries progress names) → status ≢ Failed
        → (files : List NamedBytes) × (AreFilesOf (known_bytes disk input) names files × IsAnswerTo question files)
    -- `ask`, with any options: all lines of the standard input
    pub lines : (question : Question) (table_entries : ℕ) → IsAcceptedAs arguments (about_input question table_entries) → status ≢ Failed
        → IsAnswerToLines question input
