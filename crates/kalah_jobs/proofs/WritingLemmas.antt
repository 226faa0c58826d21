-- The output of a batch: what it is by its files and by its jobs, and in parts.
use Rattle.std.proofs.{Common.{zero-add, ℕ, ◌<◌, length, arith, ◌≡◌, suc, List, ◌++◌, sym, refl, ◌+◌, [], ap, ◌∙◌, ◌∷◌, map, get_or, flat_map, cond, append-nil, length-append, inl, inr, sum_by, count_by}, lemmas.{Bool.{cases_eq}, Grind.{flat_map-append}, List.Sums.{sum_by-cons, sum_by-append}}}
use Rattle.std.specs.List.{enumerate_from}
use Rattle.kalah_jobs.specs.{entry_for, is_faulty, is_faulty_entry, entries_for, jobs_for, line_feed, lines_of, EndsWithItsLine, NamedBytes, BestMove, Taken, Question, answer_of, answer_output, line_output, file_output, output_for, tally_of, text_of_line, text_of_file, taken_output, names_of, FilesAreTheirJobs, OutputSplitsByFiles, FilesSplitBetweenLines}
use Rattle.kalah_jobs.proofs.{FileLinesLemmas.{lines_of-feed, lines_of-byte, length-lines_of}, FilesLemmas.{all_entries, length-job_list, job_count-jobs_for, asked_fault, faulty_jobs}, ListLemmas.{count_map, onto_first-append, enumerate_from-append}}

-- ==== What is stated of files and what is stated of their jobs is the same

-- the text of what is taken of file n is the answer line under this name
abbrev IsUnder : (ℕ → Taken → List ℕ) → ℕ → List ℕ → Type 0
IsUnder text n name = (taken : Taken) → text n taken ≡ answer_output name taken

-- the lines of a file from number k on
lines_by_entries : (question : Question) (text : ℕ → Taken → List ℕ) (n : ℕ) (name : List ℕ) (k : ℕ) (lines : List (List ℕ))
    → IsUnder text n name → flat_map (line_output question name) (enumerate_from k lines) ≡ flat_map (text_of_line text n)
    (enumerate_from k (map (entry_for question) lines))
lines_by_entries question text n name k [] under = refl
lines_by_entries question text n name k (line ∷ lines) under =
    cc (
      under (record { line = k; answer = answer_of (entry_for question line) }),
      lines_by_entries question text n name (k + 1) lines under,
    )

-- the files from number n on
files_by_entries : (question : Question) (text : ℕ → Taken → List ℕ) (n : ℕ) (files : List NamedBytes)
    → ((m i : ℕ) → m ≡ n + i → i < length files → IsUnder text m (get_or (names_of files) i []))
    → flat_map (file_output question) files ≡ flat_map (text_of_file text) (enumerate_from n (jobs_for question files))
unfolding entries_for
files_by_entries question text n [] under = refl
files_by_entries question text n (file ∷ files) under =
    cc (
      lines_by_entries question text n file.name 0 (lines_of file.bytes) (under n 0 (omega arith) (omega arith)),
      files_by_entries question text (n + 1) files (λ m i m_is low. under m (suc i) (omega arith) (omega arith)),
    )

-- a line is answered by a fault for each question
faults_of_lines : (question : Question) (lines : List (List ℕ))
    → count_by is_faulty_entry (map (entry_for question) lines) ≡ count_by is_faulty lines
faults_of_lines question lines =
    count_map is_faulty_entry (entry_for question) lines ∙ (λ i. count_by (λ line. asked_fault question line i) lines)

-- the faults of files are the faulty entries of their jobs
faults_of_files : (question : Question) (files : List NamedBytes)
    → sum_by (λ (file : NamedBytes). count_by is_faulty (lines_of file.bytes)) files ≡ count_by is_faulty_entry
    (all_entries (jobs_for question files))
unfolding entries_for
faults_of_files question [] = refl
faults_of_files question (file ∷ files) =
    omega (
      arith,
      sum_by-cons (λ (x : NamedBytes). count_by is_faulty (lines_of x.bytes)) file files,
      faults_of_files question files,
      faults_of_lines question (lines_of file.bytes),
      sum_by-append (λ entry. cond (is_faulty_entry entry) 1 0) (entries_for question file.bytes) (all_entries (jobs_for question files)),
    )

pub files_are_their_jobs : FilesAreTheirJobs
unfolding output_for tally_of
files_are_their_jobs = record {
  output = λ question files.
      files_by_entries question (taken_output (names_of files)) 0 files
      (λ m i is low taken. ap (λ j. answer_output (get_or (names_of files) j []) taken)
      (let e : m ≡ i = omega arith in e));
  lines = λ question files. sym (length-job_list (jobs_for question files) ∙ job_count-jobs_for question files);
  faults = λ question files. faults_of_files question files ∙ sym (faulty_jobs (jobs_for question files));
}

-- ==== Files and parts of files in sequence

pub output_splits_by_files : OutputSplitsByFiles
unfolding output_for tally_of
output_splits_by_files = record {
  asked = λ question first others. flat_map-append (file_output question) first others;
  best_moves = λ first others. flat_map-append (file_output BestMove) first others;
  counts = λ first others. simp sum_by-append;
}

-- ---- lines

-- lines that end and more have the lines of both
lines_of_both : (front second : List ℕ)
    → lines_of ((front ++ line_feed ∷ []) ++ second) ≡ lines_of (front ++ line_feed ∷ []) ++ lines_of second
lines_of_both [] second = unfold lines_of in lines_of-feed line_feed second refl
lines_of_both (byte ∷ front) second = elim (cases_eq byte line_feed) [
  | inl feed ↦ simp (lines_of-feed, lines_of_both front second)
  | inr other ↦
      let some : 0 < length (lines_of (front ++ line_feed ∷ [])) = omega (arith, length-lines_of front line_feed) in
      simp (lines_of-byte, lines_of_both front second, onto_first-append)
]

-- lines that end, or none, and more have the lines of both
lines_split : (first second : List ℕ) → EndsWithItsLine first → lines_of (first ++ second) ≡ lines_of first ++ lines_of second
unfolding lines_of
lines_split first second (inl none) = rw none refl
lines_split first second (inr ends) = rw ends.1 (lines_of_both ends.0 second)

pub files_split_between_lines : FilesSplitBetweenLines
unfolding output_for tally_of
files_split_between_lines = record {
  whole = λ question file. append-nil (file_output question file);
  counted = λ file. refl;
  parts = λ first second ends. record {
    lines = lines_split first second ends;
    output = λ number question name.
        simp (lines_split first second ends, enumerate_from-append number (lines_of first) (lines_of second), flat_map-append);
    counts = simp (lines_split first second ends, zero-add, length-append, sum_by-append);
  };
}
