-- Runs over a disk and a standard input that are known.
use Rattle.std.proofs.Common.{◌≡◌, ◌∷◌, ℕ, List, [], Option, arith, None, Some, ap, inl, inr, length}
use Rattle.clap.specs.Words.{Text}
use Rattle.kalah_jobs.specs.{Files.NamedBytes.{NamedBytes}, Writing.Sink.{SinkState}}
use Rattle.kalah_cli.specs.{AnswersWhatIsKnown, DoesWhatIsAsked, MayBeLeft, known_bytes, ExitStatus, about_files, about_input}

-- a standard input that may be left is the one that is known
known_left : (input : List ℕ) (unread : Option (List ℕ)) → MayBeLeft (λ bytes. bytes ≡ input) unread → unread ≡ Some input
known_left input None possible = absurd (omega (arith, ap length (possible (0 ∷ input))))
known_left input (Some bytes) possible = ap (λ l. Some l) possible

module _ {O : Type 0} {state : O → SinkState} {old new : O} {status : ExitStatus}
    (disk : List NamedBytes) (input : List ℕ) {output : List ℕ}
    (before : (state old).written ≡ Some []) (after : (state new).written ≡ Some output) where
  -- what is promised of any run is pinned of one over what is known
  pub answers_what_is_known : {arguments : List Text} → DoesWhatIsAsked state old new status (known_bytes disk input) arguments
      → AnswersWhatIsKnown status output disk input arguments
  answers_what_is_known accepted = record {
    files = λ question workers table_entries progress names accepted_as not_failed.
        elim (accepted (about_files question workers table_entries progress names) accepted_as) [
          | inl does ↦ (
            does.files,
            (
              (does.named, elim does.given [ inl fails ↦ absurd (not_failed fails.0) | inr given ↦ given ]),
              (rw (before, after) at (does.printed.whole not_failed), does.clean not_failed),
            ),
          )
          | inr fails ↦ absurd (not_failed fails.0)
        ];
    lines = λ question table_entries accepted_as not_failed. elim (accepted (about_input question table_entries) accepted_as) [
      | inl does ↦
          let asked = does.answered.asked not_failed in
          let known = known_left input does.unread does.given in
          let all : asked.0.read ≡ input = rw known at asked.0.all in
          let read = rw all at asked.0.status in
          (rw (before, after, all) at asked.0.written, rw read at asked.1)
      | inr fails ↦ absurd (not_failed fails.0)
    ];
  }
