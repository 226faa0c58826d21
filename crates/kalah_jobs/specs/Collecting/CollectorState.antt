-- What has come to a collector, as plain data.
use Rattle.std.specs.Prelude.{◌≡◌, ℕ, ◌+◌, ◌<◌, ◌≤◌, List, [], ◌∷◌, length, map, Option, Some, None, slice_index_or, slice_set, replicate}
use Rattle.kalah_jobs.specs.{Files.JobList.{JobsState}, Types.{Answer, Taken}}

-- Of a file: for each of its lines the answer that has arrived for it, if one has; and how many answers were taken, from the first line
-- on.
pub record ArrivalsState : Type 0 where
  pub arrived : List (Option Answer)
  pub taken : ℕ

-- the number of lines of the file
abbrev pub line_count : ArrivalsState → ℕ
line_count s = length s.arrived

-- the answer that has arrived for line k, if one has
abbrev pub arrived_for : ArrivalsState → ℕ → Option Answer
arrived_for s k = slice_index_or s.arrived k None

-- the number of lines before the first that is missing
abbrev pub front_of : List (Option Answer) → ℕ
front_of [] = 0
front_of (None ∷ rest) = 0
front_of (Some answer ∷ rest) = front_of rest + 1

-- the number of lines that are ready or taken
abbrev pub front : ArrivalsState → ℕ
front s = front_of s.arrived

-- every line is ready or taken; a file with no lines has ended from the start
abbrev pub HasEnded : ArrivalsState → Type 0
HasEnded s = front s ≡ line_count s

-- a file of n lines with no answer yet
abbrev pub new_file : ℕ → ArrivalsState
new_file n = record { arrived = replicate n None; taken = 0 }

-- the state of a file that is not there
abbrev pub no_file : ArrivalsState
no_file = record { arrived = []; taken = 0 }

-- the state of file f
abbrev pub state_of : List ArrivalsState → ℕ → ArrivalsState
state_of files f = slice_index_or files f no_file

-- files to which nothing has come, with a line for each entry
abbrev pub new_files : JobsState → List ArrivalsState
new_files jobs = map (λ entries. new_file (length entries)) jobs

-- the files have as many lines as the jobs
abbrev pub HasLinesOf : JobsState → List ArrivalsState → Type 0
HasLinesOf jobs files = map line_count files ≡ map length jobs

-- the file with an answer for line k
abbrev pub with_answer : ArrivalsState → ℕ → Answer → ArrivalsState
with_answer s k a = record { arrived = slice_set s.arrived k (Some a); taken = s.taken }

-- the file with one line more taken
abbrev pub with_one_taken : ArrivalsState → ArrivalsState
with_one_taken s = record { arrived = s.arrived; taken = s.taken + 1 }

-- the line is the first of the file that was not taken, it is ready, and it has the answer that has arrived for it
pub record IsNext (s : ArrivalsState) (result : Taken) : Type 0 where
  pub ready : s.taken < front s
  pub first : result.line ≡ s.taken
  pub came : arrived_for s result.line ≡ Some result.answer

-- no line of the file is ready that was not taken
abbrev pub HasNoNext : ArrivalsState → Type 0
HasNoNext s = front s ≤ s.taken

-- the files with an answer for line k of file f
abbrev pub after_offer : List ArrivalsState → ℕ → ℕ → Answer → List ArrivalsState
after_offer files f k a = slice_set files f (with_answer (state_of files f) k a)

-- the files with one line more taken of file f
abbrev pub after_take : List ArrivalsState → ℕ → List ArrivalsState
after_take files f = slice_set files f (with_one_taken (state_of files f))
