-- The entry of a line of a file.
use Rattle.std.specs.Prelude.{◌≡◌, ℕ, List, Bool, true, false, Result, Ok, Err}
use Rattle.kalah_rules.specs.Position.{Position}
use Rattle.kalah_jobs.specs.{Line.{Line.{Reads, HasFault}, Reading.{reading_of}}, Types.{LineFault, Entry, BestMoveOf, ValuesOf, StepsOf, Bad, Question}, declared.files.question.Question.TheVariants.{BestMove, Values, Steps}}

-- what the line says before anything is asked: its position, or its first fault
abbrev pub ReadsAs : List ℕ → Entry → Type 0
ReadsAs line (BestMoveOf p) = Reads line p
ReadsAs line (ValuesOf p) = ⊥
ReadsAs line (StepsOf p) = ⊥
ReadsAs line (Bad fault) = HasFault line fault

-- the entry of a position, with this question
abbrev pub entry_asked : Question → Position → Entry
entry_asked BestMove p = BestMoveOf p
entry_asked Values p = ValuesOf p
entry_asked Steps p = StepsOf p

-- the entry of a line: this question of the position that was read, or the fault that was found
abbrev pub entry_of_reading : Question → Result Position LineFault → Entry
entry_of_reading question (Ok p) = entry_asked question p
entry_of_reading question (Err fault) = Bad fault

-- the entry of a line, with this asked of its position
unfoldable pub entry_for : Question → List ℕ → Entry
entry_for question line = entry_of_reading question (reading_of line)

-- the entry of a line, with the best move asked of its position
abbrev pub entry_of : List ℕ → Entry
entry_of line = entry_for BestMove line

-- this is the entry of a line that is not read and is answered by its fault
abbrev pub is_faulty_entry : Entry → Bool
is_faulty_entry (Bad fault) = true
is_faulty_entry _ = false

-- the line can't be read as a position
abbrev pub is_faulty : List ℕ → Bool
is_faulty line = is_faulty_entry (entry_of line)

-- each line says exactly one entry
pub record EntriesAreOne : Type 0 where
  pub some : (line : List ℕ) → ReadsAs line (entry_of line)
  pub one : (line : List ℕ) (entry : Entry) → ReadsAs line entry → entry ≡ entry_of line
