-- What a run promises of its arguments.
use Rattle.std.proofs.{Common.{◌≡◌, ◌≢◌, ◌∙◌, ℕ, List, true, false, sym, subst, inl, inr}, lemmas.Bool.{false_from_ne_true}}
use Rattle.kalah_jobs.specs.Writing.Sink.{SinkState}
use Rattle.kalah_cli.specs.{FailsOrFlushes, FailsWithoutOutput, ExitStatus, Failed, Source, kalah_app, Task, DoesNotAskFor, IsAcceptedAs, Moves, Does, KeepsPromises, DoesWhatIsAsked, NeedsNoInput, EndsWithoutRequest, MovesByItsArguments, about_line, about_files, about_input, conflict}
use Rattle.clap.specs.{Words.{HasKind, IsAmong, Text, fault_of, kind_of}, declared.error.{Error.{Error}, kind.ErrorKind.{ErrorKind, TheVariants.{DisplayHelp, DisplayVersion, OutOfMemory}}}}
use Rattle.kalah_cli.proofs.{RequestLemmas.{moves_accepted, accepted_at, accepted_once, read_is_no_flag}, EndsLemmas.{ends_unchanged, stops_at_once}}

-- ==== what arguments are accepted as, and what is done for them

module _ {O : Type 0} (state : O → SinkState) {old new : O} {status : ExitStatus} (may_give : Source → List ℕ → Type 0)
    (sound : (state old).has_failed ≡ false) where
  -- how a run ends that does what is asked, unless lines of the standard input are to be answered
  run_ends : (task : Task) → NeedsNoInput task → Does state old new status may_give task → FailsOrFlushes state old new status
  run_ends (about_line command line) _ does = does.0.ends
  run_ends (about_files question workers table_entries progress names) _ does = does.ends
  run_ends (about_input question table_entries) no_input does = absurd no_input
  run_ends conflict _ does = rw does.1 (ends_unchanged sound)

  run_fails : (task : Task) → Does state old new status may_give task → (state new).has_failed ≡ true → status ≡ Failed
  run_fails (about_input question table_entries) does = does.answered.failed
  run_fails a does = (run_ends a tt does).failed

  -- unless it failed, all is flushed
  run_flushes : (task : Task) → Does state old new status may_give task → status ≢ Failed → (state old).is_flushed ≡ true
      → (state new).is_flushed ≡ true
  run_flushes (about_input question table_entries) does = λ not_failed.
      does.answered.all_flushed (false_from_ne_true (state new).has_failed (λ failed. not_failed (does.answered.failed failed)))
  run_flushes a does = (run_ends a tt does).all_flushed

-- an error of arguments that ask for no help, or for no version, is no such request
kind_not_asked_for : (k : ErrorKind) (arguments : List Text) (e : Error) → OutOfMemory ≢ k → HasKind (fault_of kalah_app arguments) e
    → DoesNotAskFor arguments k → kind_of e ≢ k
kind_not_asked_for k arguments e other has_kind unasked = λ asked.
    elim has_kind [
      | inl memory ↦ other (sym memory ∙ asked)
      | inr among ↦ unasked (rw asked at among)
    ]

-- ==== what a run promises of its arguments

module _ {O : Type 0} {state : O → SinkState} {arguments : List Text} {may_give : Source → List ℕ → Type 0} {old new : O}
    {status : ExitStatus} where
  -- what is promised of arguments that are accepted covers those of `moves`
  by_arguments : DoesWhatIsAsked state old new status may_give arguments → MovesByItsArguments state old new status arguments
  by_arguments accepted = record {
    moves = λ name line words_are p reads.
        elim (accepted (about_line (Moves false) line) (accepted_at words_are (moves_accepted name line (read_is_no_flag line p reads)))) [
          | inl does ↦ let printed = does.0.read p reads in (printed.0, λ clean. printed.1.whole (λ failed. cc))
          | inr fails ↦ ((λ fault. cc), (λ clean. absurd cc))
        ];
    unread = λ name line words_are plain no_position.
        elim (accepted (about_line (Moves false) line) (accepted_at words_are (moves_accepted name line plain))) [
          | inl does ↦ let unread = does.0.unread no_position in ((λ clean. cc), unread.1)
          | inr fails ↦ ((λ clean. cc), fails.1)
        ];
  }

  -- the arguments are accepted, and what they ask for is done
  pub run_of_request : {b : Task} → (state old).has_failed ≡ false → IsAcceptedAs arguments b → Does state old new status may_give b
      → KeepsPromises state old new status may_give arguments
  run_of_request {b} sound accepted_as done =
      let does : (a : Task) → IsAcceptedAs arguments a → Does state old new status may_give a =
      λ a also_as. rw (accepted_once arguments b a accepted_as also_as) at done in
      let accepted : DoesWhatIsAsked state old new status may_give arguments = λ a also_as. inl (does a also_as) in
      record {
        accepted = accepted;
        by_arguments = by_arguments accepted;
        no_request = λ faulty. absurd (faulty accepted_as.0);
        failed = run_fails state may_give sound b done;
        unchanged = λ no_input. (run_ends state may_give sound b (no_input b accepted_as) done).unchanged;
        stopped = λ question table_entries asked failed unfailed.
            let input = (does (about_input question table_entries) asked).answered in (_, input.left, input.stopped failed unfailed);
        all_flushed = run_flushes state may_give sound b done;
      }

  -- the arguments are refused with this error, which asks for help or the version, or is a mistake in them
  pub run_without_request : (error : Error) → HasKind (fault_of kalah_app arguments) error
      → EndsWithoutRequest state old new status (λ kind. kind_of error ≢ kind) → FailsOrFlushes state old new status
      → KeepsPromises state old new status may_give arguments
  run_without_request error has_kind by_error ends =
      let help = kind_not_asked_for DisplayHelp arguments error (λ e. cc) has_kind in
      let version = kind_not_asked_for DisplayVersion arguments error (λ e. cc) has_kind in
      let without_request : EndsWithoutRequest state old new status (DoesNotAskFor arguments) = record {
        usage = λ no_help no_version. by_error.usage (help no_help) (version no_version);
        version = λ no_help. by_error.version (help no_help);
        no_line = by_error.no_line;
      } in
      let fails : (a : Task) → IsAcceptedAs arguments a → FailsWithoutOutput old new status = λ a accepted_as.
      without_request.usage (subst (IsAmong DisplayHelp) accepted_as.0) (subst (IsAmong DisplayVersion) accepted_as.0) in
      let accepted : DoesWhatIsAsked state old new status may_give arguments = λ a accepted_as. inr (fails a accepted_as) in
      record {
        accepted = accepted;
        by_arguments = by_arguments accepted;
        no_request = λ _. without_request;
        failed = ends.failed;
        unchanged = λ _. ends.unchanged;
        stopped = λ question table_entries accepted_as _ _.
            rw (fails (about_input question table_entries) accepted_as).1 (stops_at_once question (state old).written);
        all_flushed = ends.all_flushed;
      }
