-- The entries of lines, the jobs of a batch, and equal boards.
use Rattle.std.proofs.Common.{◌≡◌, ℕ, ◌+◌, ◌<◌, ◌≤◌, List, [], ◌∷◌, ◌++◌, length, get_or, take, drop, refl, ap, sym, ◌∙◌, arith, length-append, Some, count_by, Ok, Err, zero, suc, Bool}
use Rattle.std.proofs.Common.{true, false, map, slice_get, sum_by, flat_map}
use Rattle.std.proofs.Math.Seq.{get_or-append_seam}
use Rattle.std.proofs.lemmas.Bool.Decides.{nat_tests}
use Rattle.std.proofs.lemmas.List.{take_all, take_more, take-append-le, get_or_append_left, length-map, map-append, get_or-map, Concat.{length-flat_map}}
use Rattle.std.proofs.lemmas.List.Sums.{sum_by-cons, sum_by_push, sum_by-drop_more, get_or-le-sum_by, count_by-le-length}
use Rattle.std.proofs.lemmas.Option.{slice_get_within}
use Rattle.kalah_rules.proofs.{KeyLemmas.{key-injective}, StepLemmas.{houses_within}}
use Rattle.kalah_rules.specs.{Position.{Position, IsWithinLimits, houses_in}, contracts.board.BoardEq.TheImpl.Laws.{laws-law}}
use Rattle.kalah_rules.specs.contracts.board.BoardPartialEq.TheImpl as board_eq
use Rattle.kalah_jobs.specs.{ReadsAs, entry_asked, entry_of_reading, entry_of, entry_for, is_faulty, is_faulty_entry, EntriesAreOne, JobsState, entries_of, line_job, file_jobs, jobs_from, job_list, is_faulty_job, lines_in_all, lines_in, entries_for, jobs_for, job_count, AreStarts, lines_of, NamedBytes, reading_of, BestMove, Entry, BestMoveOf, Bad, Job, Question}
use Rattle.kalah_jobs.proofs.{LineLemmas.{is_reading, only_reading}, ListLemmas.{count_map, count_flat, slice_get-append_left, slice_get-append_right}}

-- ==== Each line has one entry

-- a line says its entry only
reads_once : (line : List ℕ) (entry : Entry) → ReadsAs line entry → entry ≡ entry_of line
unfolding entry_for
reads_once line (BestMoveOf p) said = ap (entry_of_reading BestMove) (sym (only_reading line (Ok p) said))
reads_once line (Bad fault) said = ap (entry_of_reading BestMove) (sym (only_reading line (Err fault) said))
reads_once line entry said = absurd said

pub entries_are_one : EntriesAreOne
unfolding entry_for
entries_are_one = record { some = λ line. grind (arith, is_reading line); one = reads_once }

-- ==== The number of jobs before each file, and the place of a line in the list of jobs

abbrev entry_in : Job → Entry
entry_in job = job.entry

-- the entries of all files
abbrev pub all_entries : JobsState → List Entry
all_entries jobs = flat_map (λ entries. entries) jobs

-- the jobs of a file have the entries of its lines
entries_of_file : (f k : ℕ) (entries : List Entry) → map entry_in (file_jobs f k entries) ≡ entries
entries_of_file f k [] = refl
entries_of_file f k (e ∷ entries) = ap (e ∷◌) (entries_of_file f (suc k) entries)

-- the jobs of the files have the entries of all lines
entries_from : (f : ℕ) (jobs : JobsState) → map entry_in (jobs_from f jobs) ≡ all_entries jobs
entries_from f [] = refl
entries_from f (entries ∷ jobs) =
    grind (arith, map-append entry_in (file_jobs f 0 entries), entries_of_file f 0 entries, entries_from (suc f) jobs)

-- there are as many jobs as lines
pub length-job_list : (jobs : JobsState) → length (job_list jobs) ≡ job_count jobs
length-job_list jobs =
    sym (length-map (job_list jobs) entry_in) ∙ ap length (entries_from 0 jobs)
    ∙ length-flat_map (λ (entries : List Entry). entries) jobs

-- ---- the place of a line in the list of jobs

-- among the jobs of a file each stands at the index of its line
slice_get-file_jobs : (f k i : ℕ) (entries : List Entry) (e : Entry) → slice_get entries i ≡ Some e
    → slice_get (file_jobs f k entries) i ≡ Some (line_job f (k + i) e)
slice_get-file_jobs f k i [] e entry_is = cc
slice_get-file_jobs f k zero (x ∷ entries) e entry_is = grind arith
slice_get-file_jobs f k (suc i) (x ∷ entries) e entry_is = grind (arith, slice_get-file_jobs f (suc k) i entries e entry_is)

-- among the jobs of the files each comes after those of the files before its own
slice_get-jobs_from : (f g k : ℕ) (jobs : JobsState) (e : Entry) → slice_get (entries_of jobs g) k ≡ Some e
    → slice_get (jobs_from f jobs) (job_count (take g jobs) + k) ≡ Some (line_job (f + g) k e)
slice_get-jobs_from f g k [] e entry_is = cc
slice_get-jobs_from f zero k (entries ∷ jobs) e entry_is =
    grind (
      arith,
      slice_get-append_left (file_jobs f 0 entries) (jobs_from (suc f) jobs) k,
      slice_get_within (file_jobs f 0 entries) k (line_job f (0 + k) e),
      slice_get-file_jobs f 0 k entries e entry_is,
    )
slice_get-jobs_from f (suc g) k (entries ∷ jobs) e entry_is =
    grind (
      arith,
      slice_get-append_right (file_jobs f 0 entries) (jobs_from (suc f) jobs),
      slice_get-jobs_from (suc f) g k jobs e entry_is,
      length-map (file_jobs f 0 entries) entry_in,
      entries_of_file f 0 entries,
      sum_by-cons length entries (take g jobs),
    )

-- line k of file f comes after the jobs of the files before f
pub slice_get-job_list : (jobs : JobsState) (f k n : ℕ) (e : Entry) → n ≡ job_count (take f jobs) + k
    → slice_get (entries_of jobs f) k ≡ Some e → slice_get (job_list jobs) n ≡ Some (line_job f k e)
slice_get-job_list jobs f k n e n_is entry_is = grind (arith, slice_get-jobs_from 0 f k jobs e entry_is)

-- ---- the place of a job among the files

-- after the jobs of some files come those of the next one
pub lines_between : (jobs : JobsState) (f : ℕ) → f < length jobs
    → job_count (take (f + 1) jobs) ≡ job_count (take f jobs) + length (entries_of jobs f)
lines_between jobs f within = ap job_count (take_more jobs f [] within) ∙ sum_by_push length (take f jobs) (entries_of jobs f)

-- ---- while the files are read

-- there is an entry for each line
pub length-entries_for : (question : Question) (bytes : List ℕ) → length (entries_for question bytes) ≡ length (lines_of bytes)
unfolding entries_for
length-entries_for question bytes = length-map (lines_of bytes) (entry_for question)

-- there are as many jobs as the files have lines
pub job_count-jobs_for : (question : Question) (files : List NamedBytes) → job_count (jobs_for question files) ≡ lines_in_all files
job_count-jobs_for question [] = refl
job_count-jobs_for question (file ∷ files) =
    omega (
      arith,
      sum_by-cons length (entries_for question file.bytes) (jobs_for question files),
      sum_by-cons lines_in file files,
      length-entries_for question file.bytes,
      job_count-jobs_for question files,
    )

-- one file more starts after all jobs so far
starts_more : {jobs : JobsState} {starts : List ℕ} {start : ℕ} (entries : List Entry) → AreStarts jobs starts
    → start ≡ job_count jobs → AreStarts (jobs ++ entries ∷ []) (starts ++ start ∷ [])
starts_more {jobs} {starts} {start} entries so_far start_is = record {
  as_many = omega (arith, so_far.as_many, length-append starts (start ∷ []), length-append jobs (entries ∷ []));
  before = λ f low.
      grind (
        arith,
        length-append,
        take-append-le,
        take_all f jobs,
        get_or_append_left,
        get_or-append_seam,
        so_far.as_many,
        so_far.before f,
      );
}

-- The first files are read: these are their jobs, with the number of jobs before each, the number of all and that of faults.
pub record AreRead (question : Question) (files : List NamedBytes) (count : ℕ) (jobs : JobsState) (starts : List ℕ)
    (before faults : ℕ) : Type 0 where
  pub read : jobs ≡ jobs_for question (take count files)
  pub starts_are : AreStarts jobs starts
  pub before_is : before ≡ job_count jobs
  pub lines : before + lines_in_all (drop count files) ≡ lines_in_all files
  pub faults_are : faults ≡ sum_by (count_by is_faulty_entry) jobs
  pub fewer : faults ≤ before
  pub many : length jobs ≡ count

-- one file more is read
pub one_more_read : {question : Question} {files : List NamedBytes} {count : ℕ} {jobs : JobsState} {starts : List ℕ}
    {before faults many found : ℕ} {entries : List Entry} (file : NamedBytes) → AreRead question files count jobs starts before faults
    → count < length files → file ≡ get_or files count file → entries ≡ entries_for question file.bytes → many ≡ length entries
    → count_by is_faulty_entry entries ≡ found
    → AreRead question files (count + 1) (jobs ++ entries ∷ []) (starts ++ before ∷ []) (before + many) (faults + found)
one_more_read {question} {files} {count} {jobs} {entries = entries} file so_far low file_is entries_are many_are found_are =
    let all = sum_by_push length jobs entries in
    let next = sum_by-drop_more lines_in files count file low in
    let lines = ap length entries_are ∙ length-entries_for question file.bytes in
    record {
      read = cc (
        so_far.read,
        take_more files count file low,
        map-append (λ f. entries_for question f.bytes) (take count files) (get_or files count file ∷ []),
      );
      starts_are = starts_more entries so_far.starts_are so_far.before_is;
      before_is = omega (arith, so_far.before_is);
      lines = omega (arith, so_far.lines, lines, ap lines_in file_is);
      faults_are = omega (arith, so_far.faults_are, sum_by_push (count_by is_faulty_entry) jobs entries);
      fewer = omega (arith, so_far.fewer, count_by-le-length is_faulty_entry entries);
      many = omega (arith, so_far.many, length-append jobs (entries ∷ []));
    }

-- a file has no more lines than all together
pub no_more_than_all : (jobs : JobsState) (f : ℕ) → f < length jobs → length (entries_of jobs f) ≤ job_count jobs
no_more_than_all jobs f within = get_or-le-sum_by length jobs f [] within

-- what the functions of jobs need of what is counted
pub ruleset counts_of_jobs = (get_or-map, length-map, length-job_list, lines_between)

-- ==== The lines that are answered by a fault are those that are not read

-- a position is answered by no fault
asked_is_no_fault : (question : Question) (p : Position) → is_faulty_entry (entry_asked question p) ≡ false
asked_is_no_fault question p = grind arith

-- whether a line is answered by a fault doesn't depend on what is asked
pub asked_fault : (question : Question) (line : List ℕ) → is_faulty_entry (entry_for question line) ≡ is_faulty line
unfolding entry_for
asked_fault question line =
    elim (reading_of line) as (λ r. is_faulty_entry (entry_of_reading question r) ≡ is_faulty_entry (entry_of_reading BestMove r)) [
      | Ok p ↦ asked_is_no_fault question p
      | Err fault ↦ refl
    ]

-- as many jobs are answered by a fault as entries
pub faulty_jobs : (jobs : JobsState) → count_by is_faulty_job (job_list jobs) ≡ count_by is_faulty_entry (all_entries jobs)
faulty_jobs jobs = sym (count_map is_faulty_entry entry_in (job_list jobs)) ∙ ap (count_by is_faulty_entry) (entries_from 0 jobs)

-- counted file by file
pub faults_by_file : (jobs : JobsState) → count_by is_faulty_job (job_list jobs) ≡ sum_by (count_by is_faulty_entry) jobs
faults_by_file jobs = faulty_jobs jobs ∙ count_flat is_faulty_entry jobs

-- ==== Two boards are equal by `==` exactly when they show the same position

-- what `==` computes of two boards
abbrev pub same_board : Position → Position → Bool
same_board p q = (board_eq.ghosts).eq p q

-- boards that are equal by `==` show the same position
pub same_board_means : (p q : Position) → IsWithinLimits p → IsWithinLimits q → same_board p q ≡ true → p ≡ q
same_board_means p q p_limits q_limits same =
    let rows : houses_in p ≡ houses_in q = key-injective (houses_within p_limits) (houses_within q_limits)
    (grind (arith, nat_tests)) in
    let own_store : p.own_store ≡ q.own_store = grind (arith, nat_tests) in
    let other_store : p.other_store ≡ q.other_store = grind (arith, nat_tests) in
    λ i. record { own = (rows i).own; own_store = own_store i; other = (rows i).other; other_store = other_store i; rule = (rows i).rule }

pub same_board_itself : (p : Position) → same_board p p ≡ true
same_board_itself p = laws-law.refl p

-- what comparing boards needs
pub ruleset same_boards = (same_board_means, same_board_itself)
