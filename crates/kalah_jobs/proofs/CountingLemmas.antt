-- Jobs counted by tests: what is got of jobs that were shared out, and how often a job stands in a list.
use Rattle.std.proofs.Common.{◌≡◌, ℕ, ◌+◌, ◌<◌, List, [], ◌∷◌, length, set, get_or, true, refl, arith, Bool, ◌&&◌, ◌==◌, ap, eq-eqb}
use Rattle.std.proofs.Common.{if◌then◌else◌, cond, map, slice_index_or, ◌∙◌, sym, length-set, get_or-set_other}
use Rattle.std.proofs.Common.{get_or-set_same, lt-ltb, sum_by, count_by, nat_lt, sum, ◌⊎◌, zero, suc, ◌≤◌, false, ◌≢◌, inl, inr, Option}
use Rattle.std.proofs.Common.{Some, None, Contains, slice_get}
use Rattle.std.proofs.lemmas.Bool.{cases_eq, cases_Bool, Decides.{nat_tests}}
use Rattle.std.proofs.lemmas.List.{length-map, length-append, nil_from_length, get_or_default, append-nil, get_or-map}
use Rattle.std.proofs.lemmas.List.Elements.{All-head, All-tail, Contains-append_right}
use Rattle.std.proofs.lemmas.List.FromFn.{fill_by_all, length-range_with_len, length-map-range_with_len, get_or-map-range_with_len}
use Rattle.std.proofs.lemmas.List.Sums.{get_or-le-sum_by, sum_by-le, sum_by-set, sum-map, sum_by-append}
use Rattle.std.specs.{Coded.{Coded, codes}, List.{All, flat_map, range_with_len}}
use base.Stored.{Gv, gnil, gnum, gcons}
use Rattle.kalah_jobs.specs.{job, GetsEachJobOnce, times_in, sent_by_worker, AreShared, line_job, no_job, JobsState, job_list, entry_at, file_jobs, jobs_from, Job, Entry}
use Rattle.kalah_jobs.proofs.ListLemmas.{count_by-cons, count_map, count_flat}

-- ==== What is got of jobs that were shared out: each job's result, once
-- Elements are counted by classes (`by_class`): results by the worker that sent them, and the numbers of rows by their value.

-- how many of the elements of a class pass a test
abbrev in_class : {T : Type 0} → (T → ℕ) → (T → Bool) → ℕ → List T → ℕ
in_class class_of p c [] = 0
in_class class_of p c (t ∷ ts) = cond (class_of t == c && p t) 1 0 + in_class class_of p c ts

-- as many elements pass as pass of all classes
by_class : {T : Type 0} (class_of : T → ℕ) (p : T → Bool) (ts : List T) (counts : List ℕ) → All (λ t. class_of t < length counts) ts →
    ((c : ℕ) → c < length counts → in_class class_of p c ts ≡ get_or counts c 0) → count_by p ts ≡ sum counts
by_class class_of p [] counts below each_class =
    omega (arith, sum_by-le (λ n. n) 0 counts (λ k d low. omega (arith, get_or_default counts k d 0 low, each_class k low)))
by_class {T} class_of p (t ∷ ts) counts below each_class =
    let low = All-head (λ u. class_of u < length counts) t ts below in
    let later : ℕ → ℕ = λ c. in_class class_of p c ts in
    let fewer : List ℕ = set counts (class_of t) (later (class_of t)) in
    let others : (c : ℕ) → c < length fewer → later c ≡ get_or fewer c 0 =
    λ c within. grind (
      arith,
      each_class c,
      length-set counts,
      get_or-set_same counts (class_of t) (later (class_of t)) 0,
      get_or-set_other counts (class_of t) c (later (class_of t)) 0,
      nat_tests,
    ) in
    grind (
      arith,
      count_by-cons p t ts,
      each_class (class_of t) low,
      nat_tests,
      sum_by-set (λ n. n) counts (class_of t) (later (class_of t)) 0 low,
      by_class class_of p ts fewer (rw length-set (All-tail (λ u. class_of u < length counts) t ts below)) others,
    )

-- of the pairs of a worker, what it sent
counted_by_worker : {X : Type 0} (p : X → Bool) (w : ℕ) (got : List (ℕ × X))
    → in_class (λ t. t.0) (λ t. p t.1) w got ≡ count_by p (sent_by_worker w got)
counted_by_worker p w [] = refl
counted_by_worker p w (t ∷ ts) = grind (arith, counted_by_worker p w ts, count_by-cons p t.1 (sent_by_worker w ts))

-- of numbers, each as often as it stands there
counted_by_number : (q : ℕ → Bool) (x : ℕ) (xs : List ℕ) → in_class (λ y. y) q x xs ≡ (if q x then count_by (λ y. y == x) xs else 0)
counted_by_number q x [] = grind arith
counted_by_number q x (y ∷ ys) = grind (arith, counted_by_number q x ys, count_by-cons (λ z. z == x) y ys, nat_tests)

-- in rows that have each number below n once, as many numbers pass a test as among all numbers below n
rows_count : (n : ℕ) (rows : List (List ℕ)) (q : ℕ → Bool) → ((x : ℕ) → times_in x rows ≡ (if nat_lt x n then 1 else 0))
    → sum_by (count_by q) rows ≡ count_by q (range_with_len 0 n)
rows_count n rows q once =
    let flat : List ℕ = flat_map (λ r. r) rows in
    let times_in_flat : (x : ℕ) → count_by (λ y. y == x) flat ≡ (if nat_lt x n then 1 else 0) =
    λ x. count_flat (λ y. y == x) rows ∙ once x in
    let passes : ℕ → ℕ = λ x. cond (q x) 1 0 in
    let counts : List ℕ = map passes (range_with_len 0 n) in
    let many : length counts ≡ n = length-map-range_with_len passes 0 n in
    let below : All (λ z. z < length counts) flat = λ k d within.
    let z = get_or flat k d in
    let some = rw (eq-eqb z z refl) at (get_or-le-sum_by (λ y. cond (y == z) 1 0) flat k d within) in
    let low : z < n = grind (arith, times_in_flat z, nat_tests) in
    omega arith in
    let own : (x : ℕ) → x < length counts → in_class (λ y. y) q x flat ≡ get_or counts x 0 = λ x low.
    counted_by_number q x flat ∙ ap (λ c. if q x then c else 0) (times_in_flat x ∙ rw (lt-ltb x n (omega arith)) refl)
    ∙ sym (get_or-map-range_with_len passes 0 n x x 0 (omega arith) (omega arith)) in
    sym (count_flat q rows) ∙ by_class (λ y. y) q flat counts below own ∙ sum-map passes (range_with_len 0 n)

-- for each test, the number of received results that pass it equals that of the results of all numbers
got_all_once : {X : Type 0} (p : X → Bool) {n : ℕ} {f : ℕ → X} {rows : List (List ℕ)} {got : List (ℕ × X)}
    → AreShared n f rows got → count_by p (map (λ t. t.1) got) ≡ count_by (λ x. p (f x)) (range_with_len 0 n)
got_all_once {X} p {n} {f} {rows} {got} shared =
    let q : ℕ → Bool = λ x. p (f x) in
    let counts : List ℕ = map (count_by q) rows in
    let many : length counts ≡ length rows = length-map rows (count_by q) in
    count_map p (λ (t : ℕ × X). t.1) got
    ∙ by_class (λ t. t.0) (λ t. p t.1) got counts (rw many shared.workers)
    (λ w low.
    let within : w < length rows = omega arith in
    counted_by_worker p w got ∙ ap (count_by p) (shared.whole w within) ∙ count_map p f (slice_index_or rows w [])
    ∙ sym (get_or-map (count_by q) rows w [] 0 within))
    ∙ sum-map (count_by q) rows ∙ rows_count n rows q shared.each_once

-- each passes a test that all pass
count_true : {X : Type 0} (xs : List X) → count_by (λ (x : X). true) xs ≡ length xs
count_true [] = refl
count_true {X} (x ∷ xs) = omega (arith, count_true xs, count_by-cons (λ (y : X). true) x xs)

-- as many were received as there are numbers
pub as_many_as_numbers : {X : Type 0} {n : ℕ} {f : ℕ → X} {rows : List (List ℕ)} {got : List (ℕ × X)} → AreShared n f rows got
    → length got ≡ n
as_many_as_numbers {X} {n} {got = got} shared =
    sym (length-map got (λ (t : ℕ × X). t.1))
    ∙ sym (count_true (map (λ (t : ℕ × X). t.1) got))
    ∙ got_all_once (λ (x : X). true) shared
    ∙ count_true (range_with_len 0 n) ∙ length-range_with_len 0 n

pub gets_each_job_once : GetsEachJobOnce
gets_each_job_once jobs rows got rest shared whole =
    let n : ℕ = length (job_list jobs) in
    let none : rest ≡ [] =
    nil_from_length rest (omega (arith, as_many_as_numbers shared, length-append got rest)) in
    let mine : AreShared n (job jobs) rows got =
    rw (none, append-nil) at shared in
    record {
      same_counts = λ p.
          got_all_once p mine
          ∙ sym (ap (count_by p) (fill_by_all (job jobs) (job_list jobs) n no_job refl (λ k low. refl))
          ∙ count_map p (job jobs) (range_with_len 0 n));
    }

-- ==== A test by which one offer is found in a list: it holds only of that offer

-- Counting needs a Boolean test of entries, and equality of values is none. So `codes` finds a code for each entry, no two the same
-- (`inj`): a tree of numbers (`Gv`), and these can be compared.
coded_entry : Coded Entry
coded_entry = hlevel codes

same_or_not : (x y : Gv) → (x ≡ y) ⊎ (x ≢ y)
same_or_not gnil gnil = inl refl
same_or_not (gnum m) (gnum n) = grind (arith, cases_eq m n)
same_or_not (gcons a b) (gcons c d) = grind (arith, same_or_not a c, same_or_not b d)
same_or_not x y = inr (λ e. cc)

-- the entries are the same
pub same_entry : Entry → Entry → Bool
same_entry a b = elim (same_or_not (coded_entry.code a) (coded_entry.code b)) [ inl same ↦ true | inr other ↦ false ]

-- the jobs are the same
abbrev pub same_job : Job → Job → Bool
same_job a b = a.file == b.file && (a.line == b.line && same_entry a.entry b.entry)

pub same_entry_itself : (e : Entry) → same_entry e e ≡ true
unfolding same_entry
same_entry_itself e = grind arith

same_entry_means : (a b : Entry) → same_entry a b ≡ true → a ≡ b
unfolding same_entry
same_entry_means a b same = coded_entry.inj a b (grind arith)

same_job_means : (a b : Job) → same_job a b ≡ true → b ≡ a
same_job_means a b same =
    let file : b.file ≡ a.file = grind (arith, nat_tests) in
    let line : b.line ≡ a.line = grind (arith, nat_tests) in
    let entry : b.entry ≡ a.entry = grind (arith, nat_tests, same_entry_means) in
    λ i. record { file = file i; line = line i; entry = entry i }

-- ==== How often an offer stands in a list

-- how often the offer stands in the list
abbrev pub times_offered : Job → List Job → ℕ
times_offered o xs = count_by (same_job o) xs

-- what stands in a list is found in it
pub contains_from_times : (o : Job) (xs : List Job) → 0 < times_offered o xs → Contains xs o
contains_from_times o [] some = absurd (omega arith)
contains_from_times o (x ∷ xs) some = elim (cases_Bool (same_job o x)) [
  | inl same ↦ (0, omega arith, same_job_means o x same)
  | inr other ↦
      let later : 0 < times_offered o xs = grind (arith, count_by-cons (same_job o) x xs) in
      Contains-append_right (x ∷ []) xs o (contains_from_times o xs later)
]

-- what is found in a list stands in it
pub times_from_contains : (o : Job) (xs : List Job) → Contains xs o → 0 < times_offered o xs
times_from_contains o xs contained =
    let least = get_or-le-sum_by (λ x. cond (same_job o x) 1 0) xs contained.0 o contained.1 in
    grind (arith, nat_tests, contained.2, same_entry_itself o.entry)

-- how often an offer with this entry stands at a place with that one
abbrev pub hits : Entry → Option Entry → ℕ
hits e None = 0
hits e (Some other) = cond (same_entry e other) 1 0

-- if it stands there, the entries are the same, and it stands there once
pub hits_once : (e : Entry) (r : Option Entry) → 0 < hits e r → (r ≡ Some e) × (hits e r ≤ 1)
hits_once e None some = absurd (omega arith)
hits_once e (Some other) some = grind (arith, same_entry_means e other)

-- not among the lines of another file, or among later lines
times_elsewhere : (o : Job) (f k : ℕ) (entries : List Entry) → (o.file ≡ f → k ≤ o.line → ⊥)
    → times_offered o (file_jobs f k entries) ≡ 0
times_elsewhere o f k [] none = refl
times_elsewhere o f k (e ∷ entries) none =
    grind (arith, nat_tests, count_by-cons {X = Job}, times_elsewhere o f (suc k) entries (λ file low. none file (omega arith)))

-- at its place among the lines of its file
times_in_file : (o : Job) (f k i : ℕ) (entries : List Entry) → o.file ≡ f → o.line ≡ k + i
    → times_offered o (file_jobs f k entries) ≡ hits o.entry (slice_get entries i)
times_in_file o f k i [] file line = refl
times_in_file o f k zero (e ∷ entries) file line =
    let one = count_by-cons (same_job o) (line_job f k e) (file_jobs f (suc k) entries) in
    grind (arith, nat_tests, times_elsewhere o f (suc k) entries (λ same low. omega arith))
times_in_file o f k (suc i) (e ∷ entries) file line =
    let one = count_by-cons (same_job o) (line_job f k e) (file_jobs f (suc k) entries) in
    grind (arith, nat_tests, times_in_file o f (suc k) i entries file (omega arith))

-- in the first file, and in those after it
times_in_both : (o : Job) (f : ℕ) (entries : List Entry) (jobs : JobsState) → times_offered o (jobs_from f (entries ∷ jobs))
    ≡ times_offered o (file_jobs f 0 entries) + times_offered o (jobs_from (suc f) jobs)
times_in_both o f entries jobs = sum_by-append (λ x. cond (same_job o x) 1 0) (file_jobs f 0 entries) (jobs_from (suc f) jobs)

-- not in later files
times_later : (o : Job) (f : ℕ) (jobs : JobsState) → o.file < f → times_offered o (jobs_from f jobs) ≡ 0
times_later o f [] low = refl
times_later o f (entries ∷ jobs) low =
    let first = times_elsewhere o f 0 entries (λ same _. omega arith) in
    omega (arith, times_in_both o f entries jobs, times_later o (suc f) jobs (omega arith))

-- at its place in the files' lines
times_from_file : (o : Job) (f g : ℕ) (jobs : JobsState) → o.file ≡ f + g
    → times_offered o (jobs_from f jobs) ≡ hits o.entry (entry_at jobs g o.line)
times_from_file o f g [] file = refl
times_from_file o f zero (entries ∷ jobs) file =
    let first = times_in_file o f 0 o.line entries (omega arith) (omega arith) in
    omega (arith, times_in_both o f entries jobs, times_later o (suc f) jobs (omega arith))
times_from_file o f (suc g) (entries ∷ jobs) file =
    let first = times_elsewhere o f 0 entries (λ same _. omega arith) in
    omega (arith, times_in_both o f entries jobs, times_from_file o (suc f) g jobs (omega arith))

-- an offer stands among the jobs once if it is one of them, and else never
pub times_in_jobs : (o : Job) (jobs : JobsState) → times_offered o (job_list jobs) ≡ hits o.entry (entry_at jobs o.file o.line)
times_in_jobs o jobs = times_from_file o 0 o.file jobs (omega arith)
