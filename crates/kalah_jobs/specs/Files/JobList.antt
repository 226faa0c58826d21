-- The jobs of a batch: of each file the entries of its lines, and all of them in one list.
use Rattle.std.specs.Prelude.{ℕ, suc, List, [], ◌∷◌, ◌++◌, Bool, Option, slice_get, slice_index_or}
use Rattle.kalah_jobs.specs.{Files.Entry.{is_faulty_entry}, Types.{Entry, Bad, Job, Empty}}

-- of each file the entries of its lines
abbrev pub JobsState : Type 0
JobsState = List (List Entry)

-- the entries of file f; none if there is no such file
abbrev pub entries_of : JobsState → ℕ → List Entry
entries_of jobs f = slice_index_or jobs f []

-- the entry of line k of file f, if there is such a line
abbrev pub entry_at : JobsState → ℕ → ℕ → Option Entry
entry_at jobs f k = slice_get (entries_of jobs f) k

-- line k of file f, with its entry
abbrev pub line_job : ℕ → ℕ → Entry → Job
line_job f k e = record { file = f; line = k; entry = e }

-- some job, past the last one
abbrev pub no_job : Job
no_job = line_job 0 0 (Bad Empty)

-- the lines of file f from line k on
abbrev pub file_jobs : ℕ → ℕ → List Entry → List Job
file_jobs f k [] = []
file_jobs f k (e ∷ entries) = line_job f k e ∷ file_jobs f (suc k) entries

-- the lines of the files from file f on
abbrev pub jobs_from : ℕ → JobsState → List Job
jobs_from f [] = []
jobs_from f (entries ∷ jobs) = file_jobs f 0 entries ++ jobs_from (suc f) jobs

-- all jobs in order: files in order, in each its lines in order
abbrev pub job_list : JobsState → List Job
job_list jobs = jobs_from 0 jobs

-- the job is answered by a fault
abbrev pub is_faulty_job : Job → Bool
is_faulty_job job = is_faulty_entry job.entry
