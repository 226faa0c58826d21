-- The collector: how far each file has come, and what any list of offers and takes makes of it.
use Rattle.std.proofs.Common.{◌≡◌, ℕ, zero, suc, ◌+◌, ◌<◌, ◌≤◌, List, [], ◌∷◌, length, set, get_or, replicate, true, false, refl, arith, ap}
use Rattle.std.proofs.Common.{eq-eqb, ◌≢◌, inl, inr, cond, ◌++◌, map, ◌∙◌, sym, ne_eqb, length-set, get_or-set_other, get_or-set_same, take}
use Rattle.std.proofs.Common.{Option, Some, None, slice_get, ◌↔◌, is_some, IsSome, Contains, Result, Ok, Err}
use Rattle.std.proofs.lemmas.Bool.{cases_eq, Decides.{nat_tests}}
use Rattle.std.proofs.lemmas.List.{length-map, get_or_default, length-replicate, get_or-replicate, get_or_past, append-nil, append_assoc}
use Rattle.std.proofs.lemmas.List.{take_all}
use Rattle.std.proofs.lemmas.List.Elements.{Contains-append_left, Contains-push, Contains-push_cases}
use Rattle.std.proofs.lemmas.List.{Sums.{sum_by-append}}
use Rattle.std.proofs.lemmas.Option.{slice_get_within, slice_get-get_or}
use Rattle.std.specs.List.{enumerate_from}
use Rattle.kalah_jobs.specs.{IsPermutationOfJobs, AcceptsEachJob, MakesEveryLineReady, Event, Offers, Gives, offered_in, taken_in, with_taken, HasArrived, answered_line, answered_lines}
use Rattle.kalah_jobs.specs.{IsAfterEvents, KeepsItsLaw, front_of, ArrivalsState, no_file, state_of, line_count, arrived_for, HasLinesOf, with_answer, with_one_taken, after_offer}
use Rattle.kalah_jobs.specs.{after_take, new_files, front, HasEnded, IsOffered, HoldsOffered, AgreeWithOffers, IsWanted, IsRefusedFor, AnswersInOneWay, JobsState, entries_of}
use Rattle.kalah_jobs.specs.{entry_at, line_job, no_job, Answer, OutcomeState, Entry, Refusal, Taken, answer_of, Offered, Took}
use Rattle.kalah_jobs.proofs.{CountingLemmas.{same_job, same_entry_itself, times_offered, contains_from_times, times_from_contains, hits, hits_once, times_in_jobs}, ListLemmas.{count_by-cons, some_value}}

-- ==== How many of the first lines of a file have come without a gap

pub front_within : (xs : List (Option Answer)) → front_of xs ≤ length xs
front_within (Some a ∷ xs) = omega (arith, front_within xs)
front_within xs = omega arith

-- each line below the front has come
pub front_arrived : (xs : List (Option Answer)) (k : ℕ) (d : Option Answer) → k < front_of xs → is_some (get_or xs k d) ≡ true
front_arrived (Some a ∷ xs) zero d low = refl
front_arrived (Some a ∷ xs) (suc k) d low = front_arrived xs k d (omega arith)
front_arrived xs k d low = grind arith

-- the front does not pass a gap
pub front_stops : (xs : List (Option Answer)) (k : ℕ) → is_some (get_or xs k None) ≡ false → front_of xs ≤ k
front_stops (Some a ∷ xs) zero gap = cc
front_stops (Some a ∷ xs) (suc k) gap = omega (arith, front_stops xs k gap)
front_stops xs k gap = omega arith

-- a line that has come at the front moves it on
pub front_more : (xs : List (Option Answer)) (k : ℕ) → k ≤ front_of xs → is_some (get_or xs k None) ≡ true → k + 1 ≤ front_of xs
front_more (Some a ∷ xs) zero low here = omega arith
front_more (Some a ∷ xs) (suc k) low here = omega (arith, front_more xs k (omega arith) here)
front_more (None ∷ xs) (suc k) low here = absurd (omega arith)
front_more xs k low here = cc

-- an answer more does not move the front back
pub front_set : (xs : List (Option Answer)) (k : ℕ) (a : Answer) → front_of xs ≤ front_of (set xs k (Some a))
front_set (Some b ∷ xs) (suc k) a = omega (arith, front_set xs k a)
front_set xs k a = omega arith

pub front_none : (n : ℕ) → front_of (replicate n None) ≡ 0
front_none zero = refl
front_none (suc n) = refl

-- if the first m lines have come, the front has come so far
front_least : (xs : List (Option Answer)) (m : ℕ) → ((k : ℕ) → k < m → is_some (get_or xs k None) ≡ true) → m ≤ front_of xs
front_least xs m all = grind (arith, front_more xs (front_of xs), all (front_of xs))

-- the lemmas for accepting and for taking an answer
pub ruleset fronts = (front_within, front_arrived, front_more, front_set)

-- ==== Each offer and each take keeps the state that the offers determine

-- ---- one file is changed

-- what holds of the changed file and of each other file, which stays as it was, holds of each file
each_file : (files : List ArrivalsState) (f : ℕ) (s : ArrivalsState) → f < length files → (P : ℕ → ArrivalsState → Type 0)
    → P f s → ((g : ℕ) → g ≢ f → P g (state_of files g)) → (g : ℕ) → P g (state_of (set files f s) g)
each_file files f s low P here others g = elim (cases_eq g f) [
  | inl same ↦ rw (same, get_or-set_same files f s no_file low) here
  | inr other ↦ rw (get_or-set_other files f g s no_file other) (others g other)
]

-- after an answer for one line, what holds of that line and of each other line, which stays as it was, holds of each line
each_line : (files : List ArrivalsState) (o : OutcomeState) (a : Answer) → o.file < length files
    → o.line < line_count (state_of files o.file) → (P : ℕ → ℕ → Option Answer → Type 0) → P o.file o.line (Some a)
    → ((f k : ℕ) → ((f ≡ o.file) × (k ≡ o.line) → ⊥) → P f k (arrived_for (state_of files f) k)) → (f k : ℕ)
    → P f k (arrived_for (state_of (after_offer files o.file o.line a) f) k)
each_line files o a file_low line_low P here others =
    let s : ArrivalsState = state_of files o.file in
    each_file files o.file (with_answer s o.line a) file_low (λ f new. (k : ℕ) → P f k (arrived_for new k))
    (λ k. elim (cases_eq k o.line) [
      | inl same ↦ rw (same, get_or-set_same s.arrived o.line (Some a) None line_low) here
      | inr other ↦ rw (get_or-set_other s.arrived o.line k (Some a) None other) (others o.file k (λ both. other both.1))
    ])
    (λ f ne k. others f k (λ both. ne both.0))

-- ---- counts of lines

-- there are as many files as lists of jobs
pub files_many : (jobs : JobsState) (files : List ArrivalsState) → HasLinesOf jobs files → length files ≡ length jobs
files_many jobs files has_lines = sym (length-map files line_count) ∙ ap length has_lines
    ∙ length-map jobs length

-- each file has as many lines as its jobs, also if there is no such file
pub lines_are : (jobs : JobsState) (files : List ArrivalsState) → HasLinesOf jobs files → (f : ℕ)
    → line_count (state_of files f) ≡ length (entries_of jobs f)
lines_are [] [] has_lines f = refl
lines_are (entries ∷ jobs) (s ∷ files) has_lines (suc f) = lines_are jobs files (cc) f
lines_are jobs files has_lines f = cc

-- a change that keeps a file's number of lines keeps all counts
pub counts_set : (files : List ArrivalsState) (f : ℕ) (s : ArrivalsState) → line_count s ≡ line_count (state_of files f)
    → map line_count (set files f s) ≡ map line_count files
counts_set [] f s same = refl
counts_set (x ∷ files) zero s same = ap (◌∷ map line_count files) same
counts_set (x ∷ files) (suc f) s same = ap (line_count x ∷◌) (counts_set files f s same)

-- ---- what has arrived

-- what was offered is offered with one offer more
still_offered : {jobs : JobsState} {past : List OutcomeState} {f k : ℕ} {a : Answer} (o : OutcomeState) → IsOffered jobs past f k a
    → IsOffered jobs (past ++ o ∷ []) f k a
still_offered {jobs} {past} {f} {k} o old = record {
  entry = old.entry;
  entry_is = old.entry_is;
  answer_is = old.answer_is;
  offered = Contains-append_left past (o ∷ []) (line_job f k old.entry) old.offered;
}

-- a file with a line is there
file_there : (files : List ArrivalsState) (f k : ℕ) → k < line_count (state_of files f) → f < length files
file_there files f k low = grind (arith, get_or_past files f no_file)

-- what had arrived before an offer or a take
module _ {jobs : JobsState} {past : List OutcomeState} {files : List ArrivalsState} (holds : HoldsOffered jobs past files) where
  -- an accepted offer keeps what holds
  holds_accepted : (o : OutcomeState) → IsWanted jobs files o
      → HoldsOffered jobs (past ++ o ∷ []) (after_offer files o.file o.line (answer_of o.entry))
  holds_accepted o wanted =
      let a : Answer = answer_of o.entry in
      record {
        counts = counts_set files o.file (with_answer (state_of files o.file) o.line a)
            (length-set (state_of files o.file).arrived o.line (Some a)) ∙ holds.counts;
        arrived = each_line files o a wanted.file_there wanted.line_there
            (λ f k now. (e : Entry) → entry_at jobs f k ≡ Some e → Contains (past ++ o ∷ []) (line_job f k e)
            → now ≡ Some (answer_of e))
            (λ e entry_is offered. cc (wanted.entry_is, entry_is))
            (λ f k apart e entry_is offered.
            grind (arith, Contains-push_cases past o (line_job f k e) offered, holds.arrived f k e entry_is));
        only = each_line files o a wanted.file_there wanted.line_there
            (λ f k now. (b : Answer) → now ≡ Some b → IsOffered jobs (past ++ o ∷ []) f k b)
            (λ b same. record { entry = o.entry; entry_is = wanted.entry_is; answer_is = cc; offered = Contains-push past o })
            (λ f k apart b arrived. still_offered o (holds.only f k b arrived));
      }

  -- if a line is offered with its entry and refused, it had come before, with this entry
  refused_had_come : (f k : ℕ) (e : Entry) (r : Refusal) → entry_at jobs f k ≡ Some e → IsRefusedFor jobs files (line_job f k e) r
      → (arrived_for (state_of files f) k ≡ Some (answer_of e)) × Contains past (line_job f k e)
  refused_had_come f k e r entry_is refused =
      let arrived : IsSome (arrived_for (state_of files f) k) = grind (
        arith,
        lines_are jobs files holds.counts f,
        slice_get_within (entries_of jobs f) k e entry_is,
        file_there files f k,
        front_arrived (state_of files f).arrived k None,
      ) in
      let answer = some_value (arrived_for (state_of files f) k) arrived in
      let offer = holds.only f k answer.0 answer.1 in
      let same : offer.entry ≡ e = cc (offer.entry_is, entry_is) in
      (cc (answer.1, offer.answer_is, same), rw same at offer.offered)

  -- a refused offer changes nothing, and what holds stays true with one more offer
  holds_refused : (o : OutcomeState) (r : Refusal) → IsRefusedFor jobs files o r → HoldsOffered jobs (past ++ o ∷ []) files
  holds_refused o r refused = record {
    counts = holds.counts;
    arrived = λ f k e entry_is offered. elim (Contains-push_cases past o (line_job f k e) offered) [
      | inl old ↦ holds.arrived f k e entry_is old
      | inr new ↦ (refused_had_come f k e r entry_is (rw new at refused)).0
    ];
    only = λ f k a arrived. still_offered o (holds.only f k a arrived);
  }

  -- a take changes nothing of what has arrived, so what holds stays true
  holds_take : (f : ℕ) → f < length files → HoldsOffered jobs past (after_take files f)
  holds_take f low =
      let taken : ArrivalsState = with_one_taken (state_of files f) in
      record {
        counts = counts_set files f taken refl ∙ holds.counts;
        arrived = each_file files f taken low
            (λ g new. (k : ℕ) (e : Entry) → entry_at jobs g k ≡ Some e → Contains past (line_job g k e)
            → arrived_for new k ≡ Some (answer_of e))
            (holds.arrived f) (λ g other. holds.arrived g);
        only = each_file files f taken low (λ g new. (k : ℕ) (a : Answer) → arrived_for new k ≡ Some a → IsOffered jobs past g k a)
            (holds.only f) (λ g other. holds.only g);
      }

-- the lemmas for counts of lines
pub ruleset counts = (counts_set, get_or_default, length-set, lines_are)

-- ==== An offer is accepted or meets one refusal, and never both

pub answers_in_one_way : AnswersInOneWay
answers_in_one_way = record { wanted = λ jobs files o r wanted refused. grind arith; one = λ jobs files o q r first second. grind arith }

-- ==== After any list of offers and takes a collector has the state that the list determines

-- ---- a line is taken

-- a line that was taken, by its parts
pub taken_is : (t : Taken) (k : ℕ) (e : Entry) → t.line ≡ k → t.answer ≡ answer_of e → t ≡ answered_line (k, e)
taken_is t k e line_is answer_is = λ i. record { line = line_is i; answer = answer_is i }

-- the lines of file f, each with its answer
abbrev answered_lines_of : JobsState → ℕ → List Taken
answered_lines_of jobs f = answered_lines (entries_of jobs f)

-- the first lines, numbered from k on, grow by the line that is taken
first_lines_more : (k n : ℕ) (entries : List Entry) (t : Taken) (e : Entry) → slice_get entries n ≡ Some e → t.line ≡ k + n
    → t.answer ≡ answer_of e → take n (map answered_line (enumerate_from k entries)) ++ t ∷ []
    ≡ take (n + 1) (map answered_line (enumerate_from k entries))
first_lines_more k n [] t e entry_is line_is answer_is = cc
first_lines_more k zero (x ∷ entries) t e entry_is line_is answer_is =
    ap (◌∷ []) (taken_is t k x (omega arith) (cc (answer_is, entry_is)))
first_lines_more k (suc n) (x ∷ entries) t e entry_is line_is answer_is =
    grind (arith, first_lines_more (k + 1) n entries t e entry_is (omega arith) answer_is)

-- ---- any list of events

-- from one state to the other, these were taken of each file: its next lines
abbrev WereTaken : JobsState → List ArrivalsState → (ℕ → List Taken) → List ArrivalsState → Type 0
WereTaken jobs files took after = (f : ℕ) →
    take (state_of files f).taken (answered_lines_of jobs f) ++ took f ≡ take (state_of after f).taken (answered_lines_of jobs f)

-- the state is kept by each event
module _ {jobs : JobsState} {past : List OutcomeState} {files after : List ArrivalsState}
    (kept : AgreeWithOffers jobs past files) where
  -- by an offer, accepted or refused, which takes nothing
  pub kept_by_offer : (o : OutcomeState) (result : Result ℕ Refusal) → Offers jobs files o result after
      → AgreeWithOffers jobs (past ++ o ∷ []) after × ((f : ℕ) → (state_of after f).taken ≡ (state_of files f).taken)
  kept_by_offer o (Ok ready) step =
      let low : o.file < length files = step.wanted.file_there in
      let new : ArrivalsState = with_answer (state_of files o.file) o.line (answer_of o.entry) in
      let taken = each_file files o.file new low (λ f s. s.taken ≡ (state_of files f).taken) refl (λ f other. refl) in
      let ahead = each_file files o.file new low (λ f s. front (state_of files f) ≤ front s)
      (front_set (state_of files o.file).arrived o.line (answer_of o.entry)) (λ f other. omega arith) in
      rw step.kept (
        record {
          offered = holds_accepted kept.offered o step.wanted;
          within = λ f. omega (arith, taken f, ahead f, kept.within f);
        },
        taken,
      )
  kept_by_offer o (Err r) step =
      rw step.unchanged
      (record { offered = holds_refused kept.offered o r step.cause; within = kept.within }, λ f. refl)

  -- by a take of a line
  pub kept_by_take : (g : ℕ) (t : Taken) → Gives files g t after → AgreeWithOffers jobs past after
  kept_by_take g t step =
      let taken : ArrivalsState = with_one_taken (state_of files g) in
      rw step.kept (record {
        offered = holds_take kept.offered g step.file_there;
        within = each_file files g taken step.file_there (λ f new. new.taken ≤ front new) (omega (arith, step.next_line.ready))
            (λ f other. kept.within f);
      })

  -- the line that is taken is the next of its file
  taken_next : (g : ℕ) (t : Taken) → Gives files g t after → WereTaken jobs files (λ f. with_taken f g (Some t) []) after
  taken_next g t step =
      let offer = kept.offered.only g t.line t.answer step.next_line.came in
      rw step.kept (each_file files g (with_one_taken (state_of files g)) step.file_there
      (λ f new.
      take (state_of files f).taken (answered_lines_of jobs f) ++ with_taken f g (Some t) [] ≡ take new.taken (answered_lines_of jobs f))
      (rw (eq-eqb g g refl) (first_lines_more 0 (state_of files g).taken (entries_of jobs g) t offer.entry
      (ap (entry_at jobs g) (sym step.next_line.first) ∙ offer.entry_is) (omega (arith, step.next_line.first)) offer.answer_is))
      (λ f other. rw (ne_eqb g f (λ same. other (sym same))) (append-nil (take (state_of files f).taken (answered_lines_of jobs f)))))

-- any list of events
runs_keep : (jobs : JobsState) (past : List OutcomeState) (events : List Event) (files after : List ArrivalsState)
    → IsAfterEvents jobs files events after → AgreeWithOffers jobs past files
    → AgreeWithOffers jobs (past ++ offered_in events) after × WereTaken jobs files (λ f. taken_in f events) after
runs_keep jobs past [] files after run kept =
    rw (← run, append-nil) (kept, λ f. append-nil (take (state_of files f).taken (answered_lines_of jobs f)))
runs_keep jobs past (Offered o result ∷ events) files after run kept =
    let now = kept_by_offer kept o result run.1 in
    let rest = runs_keep jobs (past ++ o ∷ []) events run.0 after run.2 now.0 in (
      rw (append_assoc past (o ∷ []) (offered_in events)) at rest.0,
      λ f. ap (λ n. take n (answered_lines_of jobs f) ++ taken_in f events) (sym (now.1 f)) ∙ rest.1 f,
    )
runs_keep jobs past (Took g None ∷ events) files after run kept =
    let step = run.1 in
    runs_keep jobs past events files after (rw step.unchanged at run.2) kept
runs_keep jobs past (Took g (Some t) ∷ events) files after run kept =
    let rest = runs_keep jobs past events run.0 after run.2 (kept_by_take kept g t run.1) in
    (rest.0, λ f. grind (arith, append_assoc, taken_next kept g t run.1 f, rest.1 f))

-- ---- new files

-- no answer has come for new files
none_arrived_at_first : (jobs : JobsState) (f k : ℕ) → arrived_for (state_of (new_files jobs) f) k ≡ None
none_arrived_at_first [] f k = refl
none_arrived_at_first (entries ∷ jobs) zero k = grind (arith, get_or-replicate, get_or_past, length-replicate)
none_arrived_at_first (entries ∷ jobs) (suc f) k = none_arrived_at_first jobs f k

-- new files have the jobs' lines
pub new_lines : (jobs : JobsState) → HasLinesOf jobs (new_files jobs)
new_lines [] = refl
new_lines (entries ∷ jobs) = grind (arith, new_lines jobs, length-replicate)

-- nothing was taken of new files
pub new_taken : (jobs : JobsState) (f : ℕ) → (state_of (new_files jobs) f).taken ≡ 0
new_taken (entries ∷ jobs) (suc f) = new_taken jobs f
new_taken jobs f = refl

-- to new files nothing was offered, and nothing was taken of them
pub new_files_agree : (jobs : JobsState) → AgreeWithOffers jobs [] (new_files jobs)
new_files_agree jobs = record {
  offered = record {
    counts = new_lines jobs;
    arrived = λ f k e entry_is offered. absurd (omega (arith, offered.1));
    only = λ f k a arrived. cc (none_arrived_at_first jobs f k);
  };
  within = λ f. omega (arith, new_taken jobs f);
}

-- ---- the law

-- after these events the offers have come
offers_held : (jobs : JobsState) (events : List Event) (files : List ArrivalsState)
    → IsAfterEvents jobs (new_files jobs) events files → HoldsOffered jobs (offered_in events) files
offers_held jobs events files run = (runs_keep jobs [] events (new_files jobs) files run (new_files_agree jobs)).0.offered

pub keeps_its_law : KeepsItsLaw
keeps_its_law jobs events files run =
    let all = runs_keep jobs [] events (new_files jobs) files run (new_files_agree jobs) in
    let holds = all.0.offered in
    let arrived : (f k : ℕ) → IsSome (arrived_for (state_of files f) k) ↔ HasArrived jobs events f k = λ f k. (
      λ has_arrived.
          let answer = some_value (arrived_for (state_of files f) k) has_arrived in
          let offer = holds.only f k answer.0 answer.1 in
          rw offer.entry_is offer.offered,
      λ has_arrived. grind (arith, holds.arrived f k),
    ) in
    record {
      counts = holds.counts;
      arrived = arrived;
      furthest = λ f. record {
        within = omega (arith, front_within (state_of files f).arrived, lines_are jobs files holds.counts f);
        below = λ k low. (arrived f k).0 (front_arrived (state_of files f).arrived k None low);
        greatest = λ m low all. front_least (state_of files f).arrived m (λ k k_low. (arrived f k).1 (all k k_low));
      };
      taken = λ f. ap (λ n. take n (answered_lines_of jobs f) ++ taken_in f events) (sym (new_taken jobs f)) ∙ all.1 f;
      taken_within = all.0.within;
    }

-- the lemmas for making the arrivals of all files
pub ruleset new_counts = (new_lines, take_all)

-- ==== Offers of each job once, in any order

-- an offer among the jobs that was not offered before
module _ {jobs : JobsState} {past : List OutcomeState} {files : List ArrivalsState} (o : OutcomeState) (rest : List OutcomeState)
    (each_once : IsPermutationOfJobs jobs (past ++ o ∷ rest)) (holds : HoldsOffered jobs past files) where
  -- this offer is not refused, for any cause
  not_refused : (r : Refusal) → IsRefusedFor jobs files o r → ⊥
  not_refused r refused =
      let once : times_offered o past + times_offered o rest + 1 ≡ hits o.entry (entry_at jobs o.file o.line) =
      grind (
        arith,
        nat_tests,
        sum_by-append (λ x. cond (same_job o x) 1 0) past (o ∷ rest),
        count_by-cons (same_job o) o rest,
        same_entry_itself o.entry,
        each_once.same_counts (same_job o),
        times_in_jobs o jobs,
      ) in
      let is_hit = hits_once o.entry (entry_at jobs o.file o.line) (omega arith) in
      let come = refused_had_come holds o.file o.line o.entry r is_hit.0 refused in
      omega (arith, is_hit.1, times_from_contains o past come.1)

-- if each job was offered, each file has ended
pub fronts_full : {jobs : JobsState} {past : List OutcomeState} {files : List ArrivalsState} → IsPermutationOfJobs jobs past
    → HoldsOffered jobs past files → (f : ℕ) → HasEnded (state_of files f)
fronts_full {jobs} {past} {files} each_once holds f =
    let arrived = (state_of files f).arrived in
    let all = front_least arrived (length arrived) (λ k low.
    let o : OutcomeState = line_job f k (get_or (entries_of jobs f) k no_job.entry) in
    let entry_is : entry_at jobs f k ≡ Some o.entry =
    slice_get-get_or (entries_of jobs f) k no_job.entry (omega (arith, lines_are jobs files holds.counts f)) in
    ap is_some (holds.arrived f k o.entry entry_is (contains_from_times o past
    (grind (arith, each_once.same_counts (same_job o), times_in_jobs o jobs, same_entry_itself o.entry))))) in
    omega (arith, front_within arrived)

pub accepts_each_job : AcceptsEachJob
accepts_each_job jobs past o rest files after (Ok ready) each_once run step = refl
accepts_each_job jobs past o rest files after (Err r) each_once run step =
    absurd (not_refused o rest each_once (offers_held jobs past files run) r step.cause)

pub makes_every_line_ready : MakesEveryLineReady
makes_every_line_ready jobs events files each_once run =
    fronts_full each_once (offers_held jobs events files run)
