-- All lines are answered, from what the standard input had, or nothing is read.
use Rattle.std.proofs.Common.{◌≡◌, ℕ, List, [], Option, None, Some, refl, sym}
use Rattle.std.specs.{Io.Buffered.{reader_buffer, reader_capacity, reader_inner, reader_remaining}, declared.io.buffered.BufReader.{BufReader}}
use Rattle.std.specs.Io.KnownBytes.{prepend_known}
use Rattle.kalah_cli.proofs.EndsLemmas.{input_answered, input_refused}
use Rattle.kalah_cli.proofs.commands.ask.run_ask.Goals as goal

-- a reader that reads ahead has at first all that the other has
all_unread : {T A : Type 0} (remaining : T → Option (List ℕ)) (r : BufReader T A) (inner : T) → reader_inner r ≡ inner
    → reader_buffer r ≡ [] → reader_capacity r ≡ 8192 → remaining inner ≡ reader_remaining remaining r
all_unread remaining r inner same_reader empty capacity = rw (capacity, empty, same_reader) (sym (none_before (remaining inner)))
  where
    none_before : (known : Option (List ℕ)) → prepend_known [] known ≡ known
    none_before None = refl
    none_before (Some xs) = refl

pub returns-in_default : goal.returns-in_default
returns-in_default g c =
    record { unread = _; given = c.standard_input.ensures; answered = input_refused refl c.requires.not_failed }

pub returns-in_default-new_solver : goal.returns-in_default-new_solver
returns-in_default-new_solver g c =
    record { unread = _; given = c.standard_input.ensures; answered = input_refused refl c.requires.not_failed }

pub returns : goal.returns
returns g c =
    let made = c.in-Ok.ensures in
    let lines = c.answer_lines.ensures in
    record {
      unread = _;
      given = c.standard_input.ensures;
      answered = rw (all_unread g.R.Standard.Read.remaining c.in-Ok.reader c.standard_input.result made.inner made.empty made.capacity)
          (input_answered c.answer_lines.result lines.answered lines.cut_off lines.begins lines.failed lines.all_flushed
          c.status_of_answers.ensures.clean c.status_of_answers.ensures.failed);
    }
