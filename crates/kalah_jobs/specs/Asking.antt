-- What is written if lines come as a stream, and each is answered. A reader is seen as the bytes that it has left, and a
-- sink as those that were written to it, before and after, if these are known.
use Rattle.std.specs.{Io.{Buffered.{reader_remaining}, KnownBytes.{Appends, Consumes}}, List.{flat_map, enumerate_from, join_with_byte, list_any}, Prelude.{◌≡◌, ◌≢◌, ◌↔◌, ℕ, ◌+◌, ◌<◌, ◌≤◌, List, [], ◌∷◌, ◌++◌, Bool, true, false, not, IfSome, IfOk, IsErrOf, Option, Result, length, take, map}}
use Rattle.kalah_rules.specs.Position.{seeds_in_houses}
use Rattle.kalah_jobs.specs.{Files.{Entry.{entry_for, is_faulty}, Lines.{line_feed, lines_of, EndsWithItsLine, HasNoLineFeed}, NamedBytes.{NamedBytes}}, Limits.{most_line_bytes}, Types.{AskFault, Entry, BestMoveOf, ValuesOf, Question, Read, Write}, Writing.{Answer.{answer_of, answer_texts, joined_text, in_one_line, place_text}, Output.{output_for, line_output}, Sink.{SinkState}}, declared.{asking.{prompt_reader.PromptReader.{PromptReader}, prompt_solver.TheConstants.{QUICK_SEEDS}}, files.question.Question.TheVariants.{Steps}}}

-- the bytes of a line that are kept, enough to determine its entry: a line with that many, with its CR or not, is too long
abbrev pub kept_bytes : ℕ
kept_bytes = most_line_bytes + 2

-- the answer to a line, and a line feed
abbrev pub reply : Question → List ℕ → List ℕ
reply question line = joined_text (answer_of (entry_for question line)) ++ line_feed ∷ []

-- the answer to what stands after the last line feed, if anything does
abbrev pub last_reply : Question → List ℕ → List ℕ
last_reply question [] = []
last_reply question (byte ∷ line) = reply question (byte ∷ line)

-- what stands there is read, or nothing does
abbrev pub is_last_read : List ℕ → Bool
is_last_read [] = true
is_last_read (byte ∷ line) = not (is_faulty (byte ∷ line))

-- for each of the lines of the bytes, in order, its answer
unfoldable pub answers_for : Question → List ℕ → List ℕ
answers_for question bytes = flat_map (reply question) (lines_of bytes)

-- no line of the bytes is answered by a fault
abbrev pub are_all_read : List ℕ → Bool
are_all_read bytes = not (list_any is_faulty (lines_of bytes))

-- All bytes were read, and the answers to their lines were written, and nothing else was.
pub record IsAnswered (question : Question) (before after old new : Option (List ℕ)) (all_read : Bool) : Type 0 where
  pub read : List ℕ
  pub taken : Consumes before after read
  pub all : IfSome before (λ bytes. read ≡ bytes)
  pub written : Appends old new (answers_for question read)
  pub status : all_read ≡ are_all_read read

-- Lines were read, and then a part of the next one. The answers to the lines were written, and nothing else was.
pub record IsCutOff (question : Question) (before after old new : Option (List ℕ)) : Type 0 where
  pub lines : List ℕ
  pub part : List ℕ
  pub ended : EndsWithItsLine lines
  pub unended : HasNoLineFeed part
  pub taken : Consumes before after (lines ++ part)
  pub written : Appends old new (answers_for question lines)

-- what is asked of the lines of a reader, with the reader and the sink as they were then
pub record StreamStart : Type 0 where
  pub question : Question
  pub before : Option (List ℕ)
  pub old : Option (List ℕ)

module _ {I O : Type 0} (remaining : I → Option (List ℕ)) where
  -- the bytes that a prompt reader has left
  abbrev pub unread : PromptReader I O → Option (List ℕ)
  unread r = reader_remaining remaining r.input.now

  -- what is asked of its lines, with the reader and the sink as they were when it was made
  abbrev pub start_of : (O → SinkState) → PromptReader I O → StreamStart
  start_of state r =
      record { question = r.question; before = reader_remaining remaining r.first.value; old = (state r.sink.value).written }

-- all lines that were read since then are answered
abbrev pub AreAnswered : StreamStart → Option (List ℕ) → Option (List ℕ) → Type 0
AreAnswered start after new = IsCutOff start.question start.before after start.old new

-- how a failed call leaves the sink, and how many bytes may still be given: after a failed read all is flushed, and no byte is given
abbrev pub LeavesBy : AskFault → SinkState → ℕ → Type 0
LeavesBy Read out budget = (out.has_failed ≡ false) × (out.is_flushed ≡ true) × (budget ≡ 0)
LeavesBy Write out budget = out.has_failed ≡ true

-- the most seeds in houses of a position that is solved without a flush before it
abbrev pub quick_seeds : ℕ
quick_seeds = QUICK_SEEDS

-- the best move or the values of the position are asked, and it has more seeds in houses
abbrev pub TakesLong : Entry → Type 0
TakesLong (BestMoveOf p) = quick_seeds < seeds_in_houses p
TakesLong (ValuesOf p) = quick_seeds < seeds_in_houses p
TakesLong _ = ⊥

-- Lines were read, and then no more than one. The answers to the lines were written, then a prefix of the answer to that one,
-- and nothing else was.
pub record IsBegun (question : Question) (before after old new : Option (List ℕ)) : Type 0 where
  pub lines : List ℕ
  pub last : List ℕ
  pub ended : EndsWithItsLine lines
  pub one : length (lines_of last) ≤ 1
  pub taken : Consumes before after (lines ++ last)
  pub count : ℕ
  pub written : Appends old new (answers_for question lines ++ take count (answers_for question last))

-- What is read of a reader, and written to a sink, if its lines are answered.
pub record AnswersLines (question : Question) (before after : Option (List ℕ)) (old new : SinkState) (result : Result Bool AskFault)
    : Type 0 where
  -- If nothing fails: all was read, and the answers to all its lines were written, and nothing else was.
  pub answered : IfOk result (λ all_read. IsAnswered question before after old.written new.written all_read)
  -- If a read fails: all lines that had come were answered.
  pub cut_off : IsErrOf result Read → IsCutOff question before after old.written new.written
  -- In any case: a prefix of the answers was written, and at most one line was read that is not answered.
  pub begins : IsBegun question before after old.written new.written
  pub failed : new.has_failed ≡ true ↔ IsErrOf result Write
  -- If no write failed, all that was written is flushed.
  pub all_flushed : new.has_failed ≡ false → new.is_flushed ≡ true

-- the texts of the answer to a line
abbrev pub reply_texts : Question → List ℕ → List (List ℕ)
reply_texts question line = answer_texts (answer_of (entry_for question line))

-- Some lines are answered as a file of them, without the name and number before each answer. If steps are asked, the texts that have a
-- line each for a file stand in one line, with `; ` between any two. Bytes that begin with whole lines are answered as these lines are,
-- and then as the rest is.
pub record AnswersAreThoseOfAFile : Type 0 where
  pub lines : (question : Question) → question ≢ Steps → (name : List ℕ) (number : ℕ) (line : List ℕ) →
      line_output question name (number, line) ≡ place_text name number ++ reply question line
  pub file : (question : Question) → question ≢ Steps → (file : NamedBytes) →
      output_for question (file ∷ []) ≡ flat_map (λ p. place_text file.name p.0 ++ reply question p.1)
      (enumerate_from 0 (lines_of file.bytes))
  pub texts : (question : Question) (line : List ℕ) → reply question line ≡ in_one_line (reply_texts question line) ++ line_feed ∷ []
  pub placed : (question : Question) (name : List ℕ) (number : ℕ) (line : List ℕ) → line_output question name (number, line)
      ≡ join_with_byte line_feed (map (λ text. place_text name number ++ text) (reply_texts question line)) ++ line_feed ∷ []
  pub parts : (question : Question) (lines more : List ℕ) → EndsWithItsLine lines →
      answers_for question (lines ++ more) ≡ answers_for question lines ++ answers_for question more
