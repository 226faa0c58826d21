-- What a batch writes, and what it counts.
use Rattle.std.specs.{List.{flat_map, enumerate_from}, Prelude.{◌≡◌, ℕ, List, [], length, map, sum_by, count_by, slice_index_or}}
use Rattle.kalah_jobs.specs.{Files.{Entry.{entry_for, is_faulty}, JobList.{JobsState, job_list, is_faulty_job}, Jobs.{jobs_for, lines_in_all}, Lines.{lines_of}, NamedBytes.{NamedBytes}}, Types.{BestMove, Entry, Taken, Tally, Question}, Writing.Answer.{answer_of, answer_output}}

-- what is written for a line of a file, given with its number, which counts from 0, if this is asked of its position
abbrev pub line_output : Question → List ℕ → ℕ × List ℕ → List ℕ
line_output question name numbered =
    answer_output name (record { line = numbered.0; answer = answer_of (entry_for question numbered.1) })

-- what is written for a file: for each of its lines in order
abbrev pub file_output : Question → NamedBytes → List ℕ
file_output question file = flat_map (line_output question file.name) (enumerate_from 0 (lines_of file.bytes))

-- what is written for the files: for each in order, for each of its lines in order
unfoldable pub output_for : Question → List NamedBytes → List ℕ
output_for question files = flat_map (file_output question) files

-- what is written for all lines of the files, if the best move is asked of each position
abbrev pub output_of : List NamedBytes → List ℕ
output_of files = output_for BestMove files

-- the number of lines answered, and the number of faults among them
unfoldable pub tally_of : List NamedBytes → Tally
tally_of files = record {
  lines = lines_in_all files;
  faults = sum_by (λ file. count_by is_faulty (lines_of file.bytes)) files;
}

-- ---- the same, stated by jobs

-- the text of a line, given with its number and entry, if `text` gives the text of what is taken of a file
abbrev pub text_of_line : (ℕ → Taken → List ℕ) → ℕ → ℕ × Entry → List ℕ
text_of_line text f p = text f (record { line = p.0; answer = answer_of p.1 })

-- the texts of the lines of a file, given with its number
abbrev pub text_of_file : (ℕ → Taken → List ℕ) → ℕ × List Entry → List ℕ
text_of_file text p = flat_map (text_of_line text p.0) (enumerate_from 0 p.1)

-- for each file in order, for each of its lines in order, its text
abbrev pub text_of_jobs : (ℕ → Taken → List ℕ) → JobsState → List ℕ
text_of_jobs text jobs = flat_map (text_of_file text) (enumerate_from 0 jobs)

-- what is written for what is taken of file f, if the files have these names
abbrev pub taken_output : List (List ℕ) → ℕ → Taken → List ℕ
taken_output names f taken = answer_output (slice_index_or names f []) taken

-- for each job in order what is written for it, if the files have these names
abbrev pub output_of_jobs : List (List ℕ) → JobsState → List ℕ
output_of_jobs names jobs = text_of_jobs (taken_output names) jobs

-- the names of files
abbrev pub names_of : List NamedBytes → List (List ℕ)
names_of files = map (λ file. file.name) files

-- what is stated of files and what is stated of their jobs is the same, for each question
pub record FilesAreTheirJobs : Type 0 where
  pub output : (question : Question) (files : List NamedBytes) →
      output_for question files ≡ output_of_jobs (names_of files) (jobs_for question files)
  pub lines : (question : Question) (files : List NamedBytes) → (tally_of files).lines ≡ length (job_list (jobs_for question files))
  pub faults : (question : Question) (files : List NamedBytes) →
      (tally_of files).faults ≡ count_by is_faulty_job (job_list (jobs_for question files))
