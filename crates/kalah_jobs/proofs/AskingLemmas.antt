-- Lines that come as a stream: what is answered of them, and how far.
use Rattle.std.proofs.Common.{◌≡◌, ◌≢◌, ◌∙◌, ℕ, suc, ◌+◌, ◌≤◌, Bool, true, false, List, [], ◌∷◌, ◌++◌, length, take, inl, inr, refl, sym, ap, ap₂, arith, append-nil, append_assoc, Err}
use Rattle.std.proofs.Common.{not, ◌||◌, ◌&&◌, length-take-le, take_all, Result, Ok, Option, Some, None, option_to_list}
use Rattle.std.proofs.{KnownBytes.{Appends-kept, Appends-nil, Appends-trans, Consumes-kept, Consumes-nil, Consumes-trans, Consumes-whole, Keeps-refl}, Math.Bool.{and-true}}
use Rattle.std.proofs.lemmas.{Bool.{cases_lt, cond_both}, Grind.{flat_map-append}, List.{Elements.{All-nil, All-push}, Folds.{list_any-append}}}
use Rattle.std.specs.{Io.KnownBytes.{Appends, Consumes, IsAtEnd, Keeps}, List.{flat_map, enumerate_from}}
use Rattle.kalah_rules.specs.Position.{Position, is_over}
use Rattle.kalah_jobs.specs.{kept_bytes, reply, last_reply, is_last_read, answers_for, are_all_read, AnswersAreThoseOfAFile, AnswersLines, AreAnswered, IsAnswered, IsBegun, IsCutOff}
use Rattle.kalah_jobs.specs.{LeavesBy, StreamStart, entry_of_reading, entry_for, is_faulty, is_faulty_entry, line_feed, lines_of, EndsWithItsLine, HasNoLineFeed, without_cr, reading_of}
use Rattle.kalah_jobs.specs.{AskFault, Question, LineFault, Read, Write, Long, answer_of, joined_text, place_text, HasOneText, line_output, AppendsPrefix, SinkState, Bad}
use Rattle.kalah_jobs.specs.declared.files.question.Question.TheVariants.{BestMove, Steps}
use Rattle.kalah_jobs.proofs.{FileLinesLemmas.{IsNoFeed, lines_of-ended, lines_of-open, lines_of-empty}, LineLemmas.{long_is_read}, SinkLemmas.{prefix_none}, TextLemmas.{one_line_parts}, WritingLemmas.{files_split_between_lines}}

-- ==== What is answered, line by line

-- a piece that ends is one line
feed_ends_one_line : (piece : List ℕ) → HasNoLineFeed piece → lines_of (piece ++ line_feed ∷ []) ≡ piece ∷ []
unfolding lines_of
feed_ends_one_line piece none = lines_of-ended piece [] none

-- a piece that isn't empty is one line if nothing follows
rest_is_one_line : (byte : ℕ) (piece : List ℕ) → HasNoLineFeed (byte ∷ piece) → lines_of (byte ∷ piece) ≡ (byte ∷ piece) ∷ []
rest_is_one_line byte piece none = lines_of-open (byte ∷ piece) none (λ e. cc)

-- a piece is one line at most
one_line : (piece : List ℕ) → HasNoLineFeed piece → length (lines_of piece) ≤ 1
one_line [] none = rw (lines_of-empty [] refl) (omega arith)
one_line (byte ∷ piece) none = rw (rest_is_one_line byte piece none) (omega arith)

-- ---- the answers

-- the answers to whole lines and more are those to both, in order
answers_split : (question : Question) (lines more : List ℕ) → EndsWithItsLine lines
    → answers_for question (lines ++ more) ≡ answers_for question lines ++ answers_for question more
unfolding answers_for
answers_split question lines more ends = simp ((files_split_between_lines.parts lines more ends).lines, flat_map-append)

-- an empty text has no answers
no_answers : (question : Question) → answers_for question [] ≡ []
unfolding answers_for
no_answers question = ap (flat_map (reply question)) (lines_of-empty [] refl)

-- the answer to one line
answers_to_one : (question : Question) (bytes line : List ℕ) → lines_of bytes ≡ line ∷ []
    → answers_for question bytes ≡ reply question line
unfolding answers_for
answers_to_one question bytes line one = ap (flat_map (reply question)) one ∙ append-nil (reply question line)

both_read : (a b : Bool) → not (a || (b || false)) ≡ (not a && not b)
both_read a b = grind arith

-- all are read if one more is, and those before
all_read_more : (lines more line : List ℕ) → EndsWithItsLine lines → lines_of more ≡ line ∷ []
    → are_all_read (lines ++ more) ≡ (are_all_read lines && not (is_faulty line))
all_read_more lines more line ends one = simp ((files_split_between_lines.parts lines more ends).lines, one, list_any-append, both_read)

-- ---- as many bytes as are kept

cr_is_one : (line : List ℕ) → length line ≤ length (without_cr line) + 1
cr_is_one (byte ∷ more ∷ line) = omega (arith, cr_is_one (more ∷ line))
cr_is_one line = omega arith

-- a line of `kept_bytes` bytes is too long
too_long : (question : Question) (line : List ℕ) → kept_bytes ≤ length line → entry_for question line ≡ Bad Long
unfolding entry_for
too_long question line long = ap (entry_of_reading question) (long_is_read line (omega (arith, cr_is_one line)))

kept_bytes_have_the_entry : (question : Question) (line : List ℕ) → entry_for question (take kept_bytes line) ≡ entry_for question line
kept_bytes_have_the_entry question line = elim (cases_lt kept_bytes (length line)) [
  | inl long ↦
      too_long question (take kept_bytes line) (omega (arith, length-take-le kept_bytes line (omega arith)))
      ∙ sym (too_long question line (omega arith))
  | inr short ↦ ap (entry_for question) (take_all kept_bytes line short)
]

-- the bytes that are kept are answered as the line is
kept_reply : (question : Question) (line : List ℕ) → reply question (take kept_bytes line) ≡ reply question line
kept_reply question line = ap (λ entry. joined_text (answer_of entry) ++ line_feed ∷ []) (kept_bytes_have_the_entry question line)

kept_faulty : (line : List ℕ) → is_faulty (take kept_bytes line) ≡ is_faulty line
kept_faulty line = ap is_faulty_entry (kept_bytes_have_the_entry BestMove line)

take_more_kept : (n : ℕ) (line : List ℕ) (byte : ℕ) → take n (take n line ++ byte ∷ []) ≡ take n (line ++ byte ∷ [])
take_more_kept (suc n) (first ∷ line) byte = ap (first ∷◌) (take_more_kept n line byte)
take_more_kept n line byte = refl

-- what stands after the last line feed is answered as its lines are
last_reply_is : (question : Question) (piece : List ℕ) → HasNoLineFeed piece
    → answers_for question piece ≡ last_reply question (take kept_bytes piece)
last_reply_is question [] none = no_answers question
last_reply_is question (byte ∷ piece) none =
    answers_to_one question (byte ∷ piece) (byte ∷ piece) (rest_is_one_line byte piece none) ∙ sym (kept_reply question (byte ∷ piece))

-- all lines are read if those before the last line feed are, and what stands after it
last_read : (lines piece : List ℕ) → EndsWithItsLine lines → HasNoLineFeed piece
    → are_all_read (lines ++ piece) ≡ (are_all_read lines && is_last_read (take kept_bytes piece))
last_read lines [] ends none = ap are_all_read (append-nil lines) ∙ sym (and-true (are_all_read lines))
last_read lines (byte ∷ piece) ends none =
    all_read_more lines (byte ∷ piece) (byte ∷ piece) ends (rest_is_one_line byte piece none)
    ∙ ap (λ b. are_all_read lines && not b) (sym (kept_faulty (byte ∷ piece)))

-- ---- the law

-- if no steps are asked, an answer is of one line
answer_is_of_one_line : (question : Question) → question ≢ Steps → (r : Result Position LineFault)
    → HasOneText (answer_of (entry_of_reading question r))
unfolding answer_of
answer_is_of_one_line Steps other r = absurd (other refl)
answer_is_of_one_line question other (Ok p) = cond_both (is_over p) _ _ HasOneText (λ _. tt) (λ _. tt)
answer_is_of_one_line question other (Err fault) = tt

-- then an answer line is the place and the answer
line_output_parts : (question : Question) → question ≢ Steps → (name : List ℕ) (number : ℕ) (line : List ℕ)
    → line_output question name (number, line) ≡ place_text name number ++ reply question line
unfolding entry_for
line_output_parts question other name number line =
    let answer = answer_of (entry_for question line) in
    ap (◌++ (line_feed ∷ [])) (one_line_parts name number answer (answer_is_of_one_line question other (reading_of line)))
    ∙ append_assoc (place_text name number) (joined_text answer) (line_feed ∷ [])

pub answers_are_those_of_a_file : AnswersAreThoseOfAFile
answers_are_those_of_a_file = record {
  lines = line_output_parts;
  file = λ question other file.
      files_split_between_lines.whole question file
      ∙ (λ i. flat_map (λ p. line_output_parts question other file.name p.0 p.1 i) (enumerate_from 0 (lines_of file.bytes)));
  texts = λ question line. refl;
  placed = λ question name number line. refl;
  parts = answers_split;
}

-- ==== How far the lines of a stream are answered

-- Lines were read, and a part of the next one, whose first bytes are kept. The lines were answered.
pub record IsAnsweredSoFar (question : Question) (before now old new : Option (List ℕ)) (line : List ℕ) (all_read : Bool) : Type 0 where
  pub lines : List ℕ
  pub part : List ℕ
  pub ended : EndsWithItsLine lines
  pub unended : HasNoLineFeed part
  pub kept : line ≡ take kept_bytes part
  pub taken : Consumes before now (lines ++ part)
  pub written : Appends old new (answers_for question lines)
  pub status : all_read ≡ are_all_read lines

-- before anything is read, nothing is answered
pub nothing_read : (question : Question) (before old : Option (List ℕ)) (line : List ℕ) → line ≡ []
    → IsAnsweredSoFar question before before old old line true
unfolding lines_of
nothing_read question before old line empty = record {
  lines = [];
  part = [];
  ended = inl refl;
  unended = All-nil IsNoFeed;
  kept = empty;
  taken = Consumes-nil before;
  written = rw no_answers (Appends-nil old);
  status = refl;
}

-- what happens next, once lines are answered so far
module _ {question : Question} {before now old new : Option (List ℕ)} {line : List ℕ} {all_read : Bool}
    (so_far : IsAnsweredSoFar question before now old new line all_read) where
  open so_far use {lines, part, ended, unended}

  -- what was written is kept
  answers_kept : (kept : Option (List ℕ)) → Keeps new kept → Appends old kept (answers_for question lines)
  answers_kept kept keeps = Appends-kept old new kept (answers_for question lines) so_far.written keeps

  -- what was written is kept, and more is written
  more_written : (kept more : Option (List ℕ)) (bytes : List ℕ) → Keeps new kept → Appends kept more bytes
      → Appends old more (answers_for question lines ++ bytes)
  more_written kept more bytes keeps appends =
      Appends-trans old kept more (answers_for question lines) bytes (answers_kept kept keeps) appends

  reply_whole : reply question line ≡ reply question part
  reply_whole = ap (reply question) so_far.kept ∙ kept_reply question part

  reply_part : last_reply question line ≡ answers_for question part
  reply_part = ap (last_reply question) so_far.kept ∙ sym (last_reply_is question part unended)

  -- a read failed
  pub cut_off : {next kept : Option (List ℕ)} → Keeps now next → Keeps new kept → IsCutOff question before next old kept
  cut_off {next} {kept} left keeps = record {
    lines = lines;
    part = part;
    ended = ended;
    unended = unended;
    taken = Consumes-kept _ _ _ (lines ++ part) so_far.taken left;
    written = answers_kept kept keeps;
  }

  -- as much was read as makes one line at most, and its answer was begun
  begun : {next more : Option (List ℕ)} (kept : Option (List ℕ)) (last answer : List ℕ) → length (lines_of last) ≤ 1
      → Consumes before next (lines ++ last) → answer ≡ answers_for question last → Keeps new kept
      → AppendsPrefix kept more answer → IsBegun question before next old more
  begun {next} {more} kept last answer one taken answer_is keeps start = record {
    lines = lines;
    last = last;
    ended = ended;
    one = one;
    taken = taken;
    count = start.0;
    written = more_written _ _ _ keeps (rw answer_is at start.1);
  }

  -- nothing more was read or written
  pub begun_so_far : {next kept : Option (List ℕ)} → Keeps now next → Keeps new kept → IsBegun question before next old kept
  begun_so_far {kept = kept} left keeps = begun kept part (answers_for question part) (one_line part unended)
      (Consumes-kept _ _ _ (lines ++ part) so_far.taken left) refl keeps (prefix_none kept (answers_for question part))

  -- after a byte was read, or the end
  module _ {found : Option ℕ} (next kept : Option (List ℕ)) (taken : Consumes now next (option_to_list found))
      (keeps : Keeps new kept) where
    -- the byte, or nothing, is taken after those of the lines and of the part
    taken_now : (known : Option ℕ) → found ≡ known → Consumes before next (lines ++ (part ++ option_to_list known))
    taken_now known found_is =
        rw append_assoc at (Consumes-trans before now next (lines ++ part) (option_to_list known) so_far.taken (rw found_is at taken))

    -- the byte ends no line
    pub byte_read : {longer : List ℕ} (byte : ℕ) → found ≡ Some byte → byte ≢ line_feed
        → longer ≡ take kept_bytes (line ++ byte ∷ []) → IsAnsweredSoFar question before next old kept longer all_read
    byte_read byte found_is other longer_is = record {
      lines = lines;
      part = part ++ byte ∷ [];
      ended = ended;
      unended = All-push IsNoFeed part byte unended other;
      kept = longer_is ∙ ap (λ l. take kept_bytes (l ++ byte ∷ [])) so_far.kept ∙ take_more_kept kept_bytes part byte;
      taken = taken_now (Some byte) found_is;
      written = answers_kept kept keeps;
      status = so_far.status;
    }

    -- it is a line feed, and the line that it ends was answered
    pub line_read : {more : Option (List ℕ)} {byte : ℕ} {empty : List ℕ} {is_read : Bool} → found ≡ Some byte
        → byte ≡ line_feed → Appends kept more (reply question line) → is_read ≡ not (is_faulty line) → empty ≡ []
        → IsAnsweredSoFar question before next old more empty (all_read && is_read)
    line_read found_is feed answered read empty_is =
        let whole : List ℕ = part ++ line_feed ∷ [] in
        let one = feed_ends_one_line part unended in
        record {
          lines = lines ++ whole;
          part = [];
          ended = inr (lines ++ part, sym (append_assoc lines part (line_feed ∷ [])));
          unended = All-nil IsNoFeed;
          kept = empty_is;
          taken = rw append-nil (taken_now (Some line_feed) (found_is ∙ ap Some feed));
          written = rw (answers_split question lines whole ended, answers_to_one question whole part one, ← reply_whole)
              (more_written _ _ _ keeps answered);
          status = ap₂ (λ a b. a && b) so_far.status (read ∙ ap (λ l. not (is_faulty l)) so_far.kept ∙ ap not (kept_faulty part))
              ∙ sym (all_read_more lines whole part ended one);
        }

    -- the answer to the line that it ends was begun
    pub begun_line : {more : Option (List ℕ)} {byte : ℕ} → found ≡ Some byte → byte ≡ line_feed
        → AppendsPrefix kept more (reply question line) → IsBegun question before next old more
    begun_line found_is feed =
        let one = feed_ends_one_line part unended in
        begun kept (part ++ line_feed ∷ []) (reply question line) (rw one (omega arith))
        (taken_now (Some line_feed) (found_is ∙ ap Some feed))
        (reply_whole ∙ sym (answers_to_one question (part ++ line_feed ∷ []) part one)) keeps

    -- nothing was left, and the answer to what stands after the last line feed was begun
    pub begun_last : {more : Option (List ℕ)} → found ≡ None → AppendsPrefix kept more (last_reply question line)
        → IsBegun question before next old more
    begun_last none = begun kept part (last_reply question line) (one_line part unended)
        (rw append-nil at (taken_now None none)) reply_part keeps

    -- it was written whole
    all_answered : {more : Option (List ℕ)} {is_read : Bool} → found ≡ None → IsAtEnd now
        → Appends kept more (last_reply question line) → is_read ≡ is_last_read line
        → IsAnswered question before next old more (all_read && is_read)
    all_answered none at_end answered read = record {
      read = lines ++ part;
      taken = rw append-nil at (taken_now None none);
      all = Consumes-whole before now (lines ++ part) (λ bytes. lines ++ part ≡ bytes) so_far.taken at_end refl;
      written = rw (answers_split question lines part ended)
          (more_written _ _ _ keeps (rw reply_part at answered));
      status = ap₂ (λ a b. a && b) so_far.status (read ∙ ap is_last_read so_far.kept)
          ∙ sym (last_read lines part ended unended);
    }

-- what holds if all was read, answered and flushed
pub reading_done : {question : Question} {before now next new : Option (List ℕ)} {old out : SinkState} {line : List ℕ}
    {all_read is_read : Bool} {found : Option ℕ} (kept : Option (List ℕ))
    → IsAnsweredSoFar question before now old.written new line all_read → found ≡ None
    → Consumes now next (option_to_list found) → IsAtEnd now → Keeps new kept → AppendsPrefix kept out.written (last_reply question line)
    → Appends kept out.written (last_reply question line) → is_read ≡ is_last_read line → out.has_failed ≡ false → out.is_flushed ≡ true
    → AnswersLines question before next old out (Ok (all_read && is_read))
reading_done kept so_far none taken at_end keeps start written read sound flushed = record {
  answered = all_answered so_far _ kept taken keeps none at_end written read;
  cut_off = λ failed. absurd (cc failed);
  begins = begun_last so_far _ kept taken keeps none start;
  failed = (λ failed. absurd (cc (sound, failed)), λ failed. absurd (cc failed));
  all_flushed = λ _. flushed;
}

-- what holds if a write failed
pub write_failed : {question : Question} {before after : Option (List ℕ)} {old new : SinkState} → new.has_failed ≡ true
    → IsBegun question before after old.written new.written → AnswersLines question before after old new (Err Write)
write_failed has_failed begins = record {
  answered = tt;
  cut_off = λ cut_off. absurd cc;
  begins = begins;
  failed = (λ _. refl, λ _. has_failed);
  all_flushed = λ sound. absurd cc;
}

-- what holds if this fault ended the reading
pub reading_ended : {question : Question} {before now next new : Option (List ℕ)} {old out : SinkState} {line : List ℕ} {all_read : Bool}
    (budget : ℕ) (fault : AskFault) → IsAnsweredSoFar question before now old.written new line all_read → Keeps now next
    → Keeps new out.written → LeavesBy fault out budget → AnswersLines question before next old out (Err fault)
reading_ended budget Read so_far left keeps leaves = record {
  answered = tt;
  cut_off = λ _. cut_off so_far left keeps;
  begins = begun_so_far so_far left keeps;
  failed = (λ failed. absurd (cc (leaves.0, failed)), λ failed. absurd (cc failed));
  all_flushed = λ _. leaves.1;
}
reading_ended budget Write so_far left keeps leaves = write_failed leaves (begun_so_far so_far left keeps)

-- what holds of the bytes that a prompt reader has left holds of those that its reader has left
pub of_reader : {question : Question} {first last before after : Option (List ℕ)} {old new : SinkState} {result : Result Bool AskFault}
    → first ≡ before → last ≡ after → AnswersLines question first last old new result → AnswersLines question before after old new result
of_reader first_is last_is holds = rw (sym first_is, sym last_is) holds

-- while lines are underway, all whole lines are answered
pub answered_so_far : {start : StreamStart} {question : Question} {before now old new : Option (List ℕ)} {line : List ℕ} {all_read : Bool}
    → start ≡ record { question = question; before = before; old = old } → IsAnsweredSoFar question before now old new line all_read
    → AreAnswered start now new
answered_so_far {now = now} {new = new} start_is so_far = rw start_is (cut_off so_far (Keeps-refl now) (Keeps-refl new))
