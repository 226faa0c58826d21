-- How a run ends, and what it has read and answered: a line, files, or the lines of the standard input.
use Rattle.std.proofs.Common.{◌≡◌, ◌≢◌, ◌∙◌, ℕ, List, true, false, refl, sym, subst, [], ◌↔◌, IsErr, Result, Ok, Err, ◌++◌, Bool, Option}
use Rattle.std.proofs.Common.{◌∷◌, ap, map, inl, inr, append-nil, IfOk, IsErrOf, None, Some}
use Rattle.std.proofs.{lemmas.Bool.{both_ways, false_from_ne_true}, KnownBytes.{Keeps-refl}}
use Rattle.kalah_rules.specs.Position.{Position}
use Rattle.kalah_jobs.specs.{Line.Line.{Reads}, Writing.{Sink.{SinkState, WasGiven}, Output.{output_for}}}
use Rattle.kalah_jobs.specs.declared.{asking.ask_fault.AskFault.{AskFault, TheVariants.{Read, Write}}, writing.tally.Tally.{Tally}}
use Rattle.kalah_jobs.specs.{Files.NamedBytes.{NamedBytes}, Asking.{IsAnswered, IsBegun, IsCutOff}}
use Rattle.kalah_jobs.proofs.{LineLemmas.{no_line_reads_twice}, SinkLemmas.{given_then_flush, prefix_none, prefix_then}}
use Rattle.kalah_jobs.proofs.AskingLemmas.{begun_so_far, cut_off, nothing_read}
use Rattle.kalah_cli.specs.{FailsOrFlushes, IsPrinted, WritesNoPosition, PrintsByStatus, ExitStatus, Failed, LineFaults, Clean, MayPrint}
use Rattle.kalah_cli.specs.{command_output, AreFilesOf, any_bytes, MayBeLeft, Source, Question, LineCommand, Does, AnswersFiles}
use Rattle.kalah_cli.specs.{has_line_feed, AnswersInput, StopsBetweenLines, about_line}
use Rattle.std.specs.{List.{list_any}, Io.KnownBytes.{Consumes, IsAtEnd}}
use Rattle.kalah_run.specs.{Batch.Answering.{AnswersAll, AnswersBatch}, declared.batch.run_fault.RunFault.{RunFault}}
use Rattle.kalah_run.specs.declared.batch.run_fault.RunFault.TheVariants as fault

-- ==== how any run ends

pub statuses_differ : (Clean ≢ Failed) × (LineFaults ≢ Failed) × (LineFaults ≢ Clean)
statuses_differ = ((λ same. cc), (λ same. cc), (λ same. cc))

-- the text was given, and then flushed
pub printed_flushed : {O : Type 0} {state : O → SinkState} {old between new : O} {text : List ℕ} → WasGiven state old between text
    → WasGiven state between new [] → ((state new).has_failed ≡ false → (state new).is_flushed ≡ true) → IsPrinted state old new text
printed_flushed given flushed all_flushed = record { given = given_then_flush _ given flushed; all_flushed = all_flushed }

module _ {O : Type 0} {state : O → SinkState} {status : ExitStatus} where
  -- a run that wrote nothing
  pub ends_unchanged : {out : O} → (state out).has_failed ≡ false → FailsOrFlushes state out out status
  ends_unchanged sound = record {
    failed = λ failed. absurd (both_ways _ sound failed);
    unchanged = λ _ _. refl;
    all_flushed = λ _ flushed. flushed;
  }

  -- a run that failed and wrote nothing printed a prefix of any text
  prints_nothing : {out : O} {text : List ℕ} → status ≡ Failed → PrintsByStatus state out out status text
  prints_nothing {out} {text} failed =
      record { start = prefix_none (state out).written text; whole = λ not_failed. absurd (not_failed failed) }

  -- ==== a run that answers a line

  module _ (command : LineCommand) {line : List ℕ} where
    module _ (p : Position) (reads : Reads line p) where
      -- the text of the position was printed
      pub line_answered : {old new : O} → IsPrinted state old new (command_output command p) → MayPrint command p
          → ((state new).has_failed ≡ true) ↔ (status ≡ Failed) → status ≢ LineFaults
          → Does state old new status any_bytes (about_line command line)
      line_answered {old} {new} printed printable fails no_fault =
          let sound : status ≢ Failed → (state new).has_failed ≡ false =
          λ not_failed. false_from_ne_true (state new).has_failed (λ failed. not_failed (fails.0 failed)) in
          let prints : PrintsByStatus state old new status (command_output command p) =
          record { start = printed.given.start; whole = λ not_failed. (printed.given.whole (sound not_failed)).1 } in
          let same = no_line_reads_twice line p in (
            record {
              read = λ q other_reads. (
                no_fault,
                rw (same q reads other_reads) at prints,
              );
              unread = λ none. absurd (none p reads);
              ends = record {
                failed = fails.0;
                unchanged = λ failed unfailed. absurd (both_ways _ unfailed (fails.1 failed));
                all_flushed = λ not_failed _. printed.all_flushed (sound not_failed);
              };
            },
            λ q other_reads never. absurd (never (rw (same q reads other_reads) at printable)),
          )

      -- the command failed before anything was written
      pub line_refused : {old new : O} → status ≡ Failed → (state old).has_failed ≡ false → new ≡ old
          → Does state old new status any_bytes (about_line command line)
      line_refused {old} failed sound unchanged =
          rw unchanged (
            record {
              read = λ q other_reads. (λ fault. cc, prints_nothing failed);
              unread = λ none. absurd (none p reads);
              ends = ends_unchanged sound;
            },
            λ _ _ _. (failed, refl),
          )

    -- the line writes no position
    pub line_unread : {out : O} → WritesNoPosition line → status ≡ LineFaults → (state out).has_failed ≡ false
        → Does state out out status any_bytes (about_line command line)
    line_unread unread fault sound = (
      record {
        read = λ p reads. absurd (unread p reads);
        unread = λ _. (fault, refl);
        ends = ends_unchanged sound;
      },
      λ p reads. absurd (unread p reads),
    )

-- ==== what is read and answered of files

-- bytes that are all that a reader had left
pub read_whole : (may_give : List ℕ → Type 0) (old new : Option (List ℕ)) (bytes : List ℕ) → MayBeLeft may_give old
    → Consumes old new bytes → IsAtEnd new → may_give bytes
read_whole may_give None new bytes possible consumed at_end = possible bytes
read_whole may_give (Some all) None bytes possible consumed at_end = absurd consumed
read_whole may_give (Some all) (Some left) bytes possible consumed at_end =
    subst may_give (consumed ∙ ap (λ l. bytes ++ l) at_end ∙ append-nil bytes) possible

-- files of these names
empty_files : List (List ℕ) → List NamedBytes
empty_files names = map (λ name. let file : NamedBytes = record { name = name; bytes = [] } in file) names

their_names : (names : List (List ℕ)) → map (λ (file : NamedBytes). file.name) (empty_files names) ≡ names
unfolding empty_files
their_names [] = refl
their_names (name ∷ names) = ap (λ l. name ∷ l) (their_names names)

module _ {O : Type 0} {state : O → SinkState} {status : ExitStatus} {may_give : Source → List ℕ → Type 0} {question : Question}
    {names : List (List ℕ)} where
  -- the program failed before anything was written
  pub files_refused : {out : O} → status ≡ Failed → (state out).has_failed ≡ false
      → AnswersFiles state out out status may_give question names
  files_refused failed sound = record {
    files = empty_files names;
    named = their_names names;
    given = inl (failed, refl);
    printed = prints_nothing failed;
    no_line_feed = λ not_failed. absurd (not_failed failed);
    clean = λ not_failed. absurd (not_failed failed);
    ends = ends_unchanged sound;
  }

  module _ {old new : O} (files : List NamedBytes) (read : AreFilesOf may_give names files) where
    -- each line was answered
    pub files_answered : {tally : Tally} → AnswersAll state (output_for question files) files old new tally
        → list_any has_line_feed names ≡ false → status ≢ Failed → (status ≡ Clean) ↔ (tally.faults ≡ 0)
        → AnswersFiles state old new status may_give question names
    files_answered answered no_line_feed not_failed clean = record {
      files = files;
      named = read.0;
      given = inr read.1;
      printed = record {
        start = prefix_then _ _ _ _ _ [] (sym (append-nil _)) answered.written (prefix_none _ []);
        whole = λ _. answered.written;
      };
      no_line_feed = λ _. no_line_feed;
      clean = λ _. rw answered.counted at clean;
      ends = record {
        failed = λ write_failed. absurd (both_ways _ answered.not_failed write_failed);
        unchanged = λ failed. absurd (not_failed failed);
        all_flushed = λ _ _. answered.flushed;
      };
    }

    -- the batch failed
    pub files_failed : (cause : RunFault) → AnswersBatch state (output_for question files) files old new (Err cause) → status ≡ Failed
        → (state old).has_failed ≡ false → AnswersFiles state old new status may_give question names
    files_failed fault.Write answered failed sound = record {
      files = files;
      named = read.0;
      given = inr read.1;
      printed = record { start = answered.1; whole = λ not_failed. absurd (not_failed failed) };
      no_line_feed = λ not_failed. absurd (not_failed failed);
      clean = λ not_failed. absurd (not_failed failed);
      ends = record {
        failed = λ _. failed;
        unchanged = λ _ unfailed. absurd (both_ways _ unfailed answered.2);
        all_flushed = λ not_failed. absurd (not_failed failed);
      };
    }
    files_failed cause answered failed sound =
        let unchanged : new ≡ old = cc in
        rw unchanged (files_refused failed sound)

-- ==== what `ask` has answered

-- nothing was read
pub stops_at_once : (question : Question) (old : Option (List ℕ)) → StopsBetweenLines question old old
stops_at_once question old = (None, None, cut_off (nothing_read question None old [] refl) tt (Keeps-refl old))

module _ {O : Type 0} {state : O → SinkState} {status : ExitStatus} {question : Question}
    {unread : Option (List ℕ)} where
  -- the program failed before anything was read
  pub input_refused : {out : O} → status ≡ Failed → (state out).has_failed ≡ false
      → AnswersInput state out out status question unread
  input_refused {out} failed sound =
      let nothing = nothing_read question unread (state out).written [] refl in
      record {
        left = unread;
        all_read = true;
        asked = λ not_failed. absurd (not_failed failed);
        begins = begun_so_far nothing (Keeps-refl unread) (Keeps-refl (state out).written);
        failed = λ write_failed. absurd (both_ways _ sound write_failed);
        stopped = λ _ _. cut_off nothing (Keeps-refl unread) (Keeps-refl (state out).written);
        all_flushed = λ _ flushed. flushed;
      }

  -- all was read, or a read or a write failed
  pub input_answered : {left : Option (List ℕ)} {old new : O} (answered : Result Bool AskFault)
      → IfOk answered (λ all_read. IsAnswered question unread left (state old).written (state new).written all_read)
      → (IsErrOf answered Read → IsCutOff question unread left (state old).written (state new).written)
      → IsBegun question unread left (state old).written (state new).written → ((state new).has_failed ≡ true) ↔ IsErrOf answered Write
      → ((state new).has_failed ≡ false → (state new).is_flushed ≡ true) → IfOk answered (λ all_read. (status ≡ Clean) ↔ (all_read ≡ true))
      → IsErr answered ↔ (status ≡ Failed) → AnswersInput state old new status question unread
  input_answered {left} (Ok all_read) complete stopped begins write_fails all_flushed clean failed = record {
    left = left;
    all_read = all_read;
    asked = λ _. (complete, clean);
    begins = begins;
    failed = λ write_failed. absurd (cc (write_fails.0 write_failed));
    stopped = λ fails _. absurd (cc (failed.1 fails));
    all_flushed = λ sound _. all_flushed sound;
  }
  input_answered {left} (Err fault) complete stopped begins write_fails all_flushed clean failed = record {
    left = left;
    all_read = true;
    asked = λ not_failed. absurd (not_failed (failed.0 refl));
    begins = begins;
    failed = λ _. failed.0 refl;
    stopped = λ _ sound. by_fault fault (λ same. stopped (ap (λ f. Err f) same))
        (λ same. both_ways _ sound (write_fails.1 (ap (λ f. Err f) same)));
    all_flushed = λ sound _. all_flushed sound;
  } where
    by_fault : {P : Type 0} (f : AskFault) → (f ≡ Read → P) → (f ≡ Write → ⊥) → P
    by_fault Read read write = read refl
    by_fault Write read write = absurd (write refl)
