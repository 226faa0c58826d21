-- The jobs of a batch, from its files.
use Rattle.std.specs.Prelude.{◌≡◌, ◌<◌, ◌≤◌, ℕ, List, length, map, take, sum_by, count_by, slice_index, Result, Ok, Err}
use Rattle.kalah_jobs.specs.{Files.{Entry.{entry_for, is_faulty_entry}, JobList.{JobsState}, Lines.{lines_of}, NamedBytes.{NamedBytes}}, Limits.{most_files, most_lines}, Types.{Entry, Question}, declared.files.jobs.{FileJobs.{FileJobs}, JobsFault.{JobsFault, TheVariants.{TooManyFiles, TooManyLines, OutOfMemory}}}}

-- the number of lines of a file
abbrev pub lines_in : NamedBytes → ℕ
lines_in file = length (lines_of file.bytes)

-- the number of lines of all files together
abbrev pub lines_in_all : List NamedBytes → ℕ
lines_in_all files = sum_by lines_in files

-- the entries of the lines of some bytes, in order, with this asked of their positions
unfoldable pub entries_for : Question → List ℕ → List Entry
entries_for question bytes = map (entry_for question) (lines_of bytes)

-- the entries of the lines of each file, in order, with this asked of their positions
abbrev pub jobs_for : Question → List NamedBytes → JobsState
jobs_for question files = map (λ file. entries_for question file.bytes) files

-- the number of jobs
abbrev pub job_count : JobsState → ℕ
job_count jobs = sum_by length jobs

-- the jobs are within the limits, and these are the numbers of all and of those that are answered by a fault
pub record AreCounted (jobs : JobsState) (total faults : ℕ) : Type 0 where
  pub few_files : length jobs ≤ most_files
  pub lines_within_limit : job_count jobs ≤ most_lines
  pub all : total ≡ job_count jobs
  pub faulty : faults ≡ sum_by (count_by is_faulty_entry) jobs

-- for each file the entries of its lines, and the number of its first job
abbrev pub entries_in : List FileJobs → JobsState
entries_in files = map (λ file. file.entries.items) files

abbrev pub starts_in : List FileJobs → List ℕ
starts_in files = map (λ file. file.start) files

-- the first job of each file comes after the jobs of the files before it
pub record AreStarts (jobs : JobsState) (starts : List ℕ) : Type 0 where
  pub as_many : length starts ≡ length jobs
  pub before : (f : ℕ) → f < length jobs → slice_index starts f ≡ job_count (take f jobs)

-- the files are within the limits of a batch
abbrev pub AreWithinBatchLimits : List NamedBytes → Type 0
AreWithinBatchLimits files = (length files ≤ most_files) × (lines_in_all files ≤ most_lines)

-- what is made of files: their jobs, with this asked of their positions, or the first of the faults that holds
abbrev pub MakesJobs : Question → List NamedBytes → Result JobsState JobsFault → Type 0
MakesJobs question files (Ok jobs) = AreWithinBatchLimits files × (jobs ≡ jobs_for question files)
MakesJobs question files (Err TooManyFiles) = most_files < length files
MakesJobs question files (Err TooManyLines) = (length files ≤ most_files) × (most_lines < lines_in_all files)
MakesJobs question files (Err OutOfMemory) = AreWithinBatchLimits files
