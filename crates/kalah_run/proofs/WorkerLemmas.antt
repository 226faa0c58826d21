-- The workers of a batch: what each sends, and what is known once all have run.
use Rattle.std.proofs.Common.{[], ◌≡◌, ◌≤◌, ◌<◌, ◌+◌, ◌-◌, ℕ, suc, List, ◌∷◌, ◌++◌, arith, sym, ap, ◌∙◌, Bool, true, length, get_or, append_assoc}
use Rattle.std.proofs.Common.{zero, map, reverse, All, Some, fold, slice_get}
use Rattle.std.proofs.lemmas.List.{map-append, reverse-append, get_or-map, length-append, length-map, Sums.{fold-append, sum_by-cons}}
use Rattle.std.proofs.lemmas.List.Elements.{All-cons, All-map}
use Rattle.std.proofs.lemmas.{Option.{get_or_from_slice_get}, Bool.{lt-ltb}}
use Rattle.kalah_run.specs.{OutcomeState, WorkerOutcome, drawn_jobs, passes_of, puts_of, AreAtWork, HaveRun, PutPassState}
use Rattle.kalah_run.specs.{ArePassesFrom, sent_by, Accounts, outcomes_in, PassState, IsPassAt, AreNewPasses, new_pass, drawn_rows, HasOwnTable}
use Rattle.kalah_run.specs.{HaveOwnTables, drawn_numbers, DealsEachOnce, spent_in}
use Rattle.kalah_run.specs.declared.batch.{worker.Worker.{Worker}, shared_work.SharedWork.{SharedWork}}
use Rattle.kalah_jobs.specs.{Files.{JobList.{JobsState, job_list, no_job}, Jobs.{job_count}}, Collecting.{AnyOrder.{job, IsPermutationOfJobs}, Shares.{AreShared}}}
use Rattle.kalah_jobs.proofs.{CountingLemmas.{gets_each_job_once, as_many_as_numbers}, FilesLemmas.{length-job_list}}
use Rattle.kalah_run.proofs.{PassLemmas.{length-drawn_numbers, all_are_of}, RowLemmas.{one_if, All-at_dealt}}

-- ==== A worker with one job more: what it sends, and that less is left to draw

-- the outcome of the job that was drawn stands after those of the row so far
pub drawn_jobs-more : (jobs : JobsState) (numbers : List ℕ) (n : ℕ) (o : OutcomeState) → slice_get (job_list jobs) n ≡ Some o
    → drawn_jobs jobs (numbers ++ n ∷ []) ≡ drawn_jobs jobs numbers ++ o ∷ []
drawn_jobs-more jobs numbers n o job_is =
    map-append (job jobs) numbers (n ∷ [])
    ∙ ap (λ x. drawn_jobs jobs numbers ++ x ∷ []) (get_or_from_slice_get (job_list jobs) n o no_job job_is)

-- one above the last number of a row, and 0 for an empty row: it grows with each draw, so the total bounds the draws of a loop
abbrev pub least_above : List ℕ → ℕ
least_above numbers = fold (λ above x. x + 1) 0 numbers

-- one above the last of numbers below a limit is at most the limit
none_above : (numbers : List ℕ) (first limit : ℕ) → first ≤ limit → All (λ x. x < limit) numbers
    → fold (λ above x. x + 1) first numbers ≤ limit
none_above [] first limit low below = low
none_above (x ∷ xs) first limit low below = none_above xs (x + 1) limit (omega (arith, below 0 x (omega arith)))
    (λ k d within. below (suc k) d (omega arith))

-- with one number more there is less left to draw
pub less_left : (numbers : List ℕ) {more : List ℕ} {number total : ℕ} → more ≡ numbers ++ number ∷ [] → All (λ x. x < number) numbers
    → number < total → total - least_above more < total - least_above numbers
less_left numbers {more} {number} more_is above below =
    let last : least_above more ≡ number + 1 = ap least_above more_is ∙ fold-append (λ above x. x + 1) 0 numbers (number ∷ []) in
    let before = none_above numbers 0 number (omega arith) above in
    omega arith

-- ==== Workers put together from their passes, the last one first, and taken apart, the first one first

-- the last worker is the first of the reversed list
last_first : (workers workers' : List Worker) (w : Worker) → workers' ≡ workers ++ w ∷ [] → reverse workers' ≡ w ∷ reverse workers
last_first workers workers' w workers_are = ap reverse workers_are ∙ reverse-append workers (w ∷ [])

-- the last of what waits is given to one worker more
pub one_given : {X : Type 0} (f : Worker → X) (workers : List Worker) {workers' : List Worker} {w : Worker} {waiting all : List X}
    (rest : List X) {x : X} → workers' ≡ workers ++ w ∷ [] → f w ≡ x → waiting ≡ rest ++ x ∷ []
    → waiting ++ map f (reverse workers) ≡ all → rest ++ map f (reverse workers') ≡ all
one_given {X} f workers {workers'} {w} rest {x} workers_are x_is took so_far =
    ap (λ l. rest ++ map f l) (last_first workers workers' w workers_are)
    ∙ ap (λ y. rest ++ y ∷ map f (reverse workers)) x_is
    ∙ sym (append_assoc rest (x ∷ []) (map f (reverse workers)))
    ∙ ap (◌++ map f (reverse workers)) (sym took)
    ∙ so_far

pub tables_more : (workers : List Worker) {workers' : List Worker} (w : Worker) (entries : ℕ) → workers' ≡ workers ++ w ∷ []
    → HasOwnTable entries w → HaveOwnTables entries (reverse workers) → HaveOwnTables entries (reverse workers')
tables_more workers {workers'} w entries workers_are own so_far =
    rw (last_first workers workers' w workers_are) (All-cons (HasOwnTable entries) w (reverse workers) own so_far)

-- one worker more has given one of its passes
pub one_taken : {X : Type 0} (f : Worker → X) (workers : List Worker) (w : Worker) {given given' : List X}
    → given' ≡ given ++ f w ∷ [] → given ≡ map f workers → given' ≡ map f (workers ++ w ∷ [])
one_taken f workers w given_is so_far = given_is ∙ ap (◌++ (f w ∷ [])) so_far ∙ sym (map-append f workers (w ∷ []))

-- ==== The workers of a batch, from their passes to what was got of them

-- there are as many workers as passes
pub as_many_workers : (workers : List Worker) {passes : List PassState} {count : ℕ} → passes_of workers ≡ passes
    → length passes ≡ count → length workers ≡ count
as_many_workers workers are many = sym (length-map workers (λ w. w.draw_pass)) ∙ ap length are ∙ many

-- workers with new passes, that have sent nothing, are at work
pub new_at_work : {G : Type 0} {knows : G → ℕ → Bool} (shared : SharedWork G) (workers : List Worker) (count : ℕ)
    {passes : List PassState} {puts : List PutPassState} → passes_of workers ≡ passes → puts_of workers ≡ puts
    → AreNewPasses shared.desk count passes → ArePassesFrom shared.queue.id 0 puts → All (λ p. p.sent ≡ []) puts
    → AreAtWork knows shared workers
new_at_work {knows = knows} shared workers count passes_are puts_are all_new all_from all_unsent = λ k d within.
    let new = rw (← passes_are) at all_new in
    let from = rw (← puts_are) at all_from in
    let unsent = rw (← puts_are) at all_unsent in
    let w = get_or workers k d in
    let low : k < count = omega (arith, new.0, length-map workers (λ x. x.draw_pass)) in
    let put_low : k < length (puts_of workers) = omega (arith, length-map workers (λ x. x.put_pass)) in
    let pass : w.draw_pass ≡ new_pass shared.desk k = sym (get_or-map (λ x. x.draw_pass) workers k d w.draw_pass within)
    ∙ new.1 k w.draw_pass low in
    let put : get_or (puts_of workers) k w.put_pass ≡ w.put_pass = get_or-map (λ x. x.put_pass) workers k d w.put_pass within in
    record {
      draws = (ap (λ p. p.desk) pass, ap (λ p. p.total) pass);
      known = rw pass (λ j e low. absurd (omega arith));
      sends = ap (λ p. p.queue) (sym put) ∙ all_are_of shared.queue.id 0 (puts_of workers) from k w.put_pass put_low;
      sent = ap (λ p. p.sent) (sym put) ∙ unsent k w.put_pass put_low
          ∙ sym (ap (λ p. drawn_jobs shared.jobs.now p.row.numbers) pass);
    }

-- after the run each pass to put is still of the queue, and in its place
pub puts_after : {G : Type 0} {knows : G → ℕ → Bool} (shared : SharedWork G) (before after : List Worker) (n : ℕ)
    → HaveRun knows shared before after → ArePassesFrom shared.queue.id n (puts_of before)
    → ArePassesFrom shared.queue.id n (puts_of after)
puts_after shared [] [] n run from = tt
puts_after shared [] (a ∷ others) n run from = absurd (omega (arith, run.as_many))
puts_after shared (b ∷ bs) [] n run from = absurd (omega (arith, run.as_many))
puts_after {knows = knows} shared (b ∷ bs) (a ∷ others) n run from =
    let first = run.each 0 a (omega arith) in
    let rest : HaveRun knows shared bs others = record {
      as_many = (omega (arith, run.as_many));
      each = λ k d within. run.each (suc k) d (omega arith);
    } in
    (first.at_work.sends, first.number ∙ from.1, puts_after shared bs others (suc n) rest from.2)

-- what worker w sent are the outcomes of its row
sent_in_order : {G : Type 0} {knows : G → ℕ → Bool} (shared : SharedWork G) (workers : List Worker) (w : ℕ)
    → AreAtWork knows shared workers → w < length workers →
    get_or (sent_by (puts_of workers)) w [] ≡ drawn_jobs shared.jobs.now (get_or (drawn_numbers (drawn_rows (passes_of workers))) w [])
sent_in_order shared [] w at_work within = absurd (omega arith)
sent_in_order shared (x ∷ xs) zero at_work within = (at_work 0 x (omega arith)).sent
sent_in_order shared (x ∷ xs) (suc w) at_work within = sent_in_order shared xs w (λ k d low. at_work (suc k) d (omega arith))
    (omega arith)

-- some pass is spent, if each is
some_spent : (workers : List Worker) → 0 < length workers → All (λ w. w.draw_pass.row.spent ≡ true) workers
    → 0 < spent_in (drawn_rows (passes_of workers))
some_spent [] some spent = absurd (omega arith)
some_spent (w ∷ ws) some spent =
    let first = ap one_if (spent 0 w (omega arith)) in
    omega (arith, sum_by-cons (λ r. one_if r.spent) w.draw_pass.row (drawn_rows (passes_of ws)))

-- once each worker has run
module _ {G : Type 0} {knows : G → ℕ → Bool} {shared : SharedWork G} {before after : List Worker}
    (run : HaveRun knows shared before after) where
  run_at_work : AreAtWork knows shared after
  run_at_work = λ k d within. (run.each k d (omega (arith, run.as_many))).at_work

  -- the pass of each is of the desk
  pub run_passes : All (IsPassAt shared.desk) (passes_of after)
  run_passes = All-map (IsPassAt shared.desk) (λ w. w.draw_pass) after (λ k d within. (run_at_work k d within).draws)

  -- what the workers have sent was shared out by the rows of their passes
  shares_of_workers : {count drawn : ℕ} (pairs : List WorkerOutcome) → count ≡ length before
      → DealsEachOnce (job_count shared.jobs.now) drawn (drawn_rows (passes_of after)) → Accounts count (sent_by (puts_of after)) pairs
      → AreShared drawn (job shared.jobs.now) (drawn_numbers (drawn_rows (passes_of after))) pairs
  shares_of_workers pairs count_is deals accounts =
      let row_count = length-drawn_numbers (passes_of after) ∙ length-map after (λ (w : Worker). w.draw_pass) in
      let sent_count = length-map (puts_of after) (λ (p : PutPassState). p.sent) ∙ length-map after (λ (w : Worker). w.put_pass) in
      record {
        each_once = deals.each_once;
        workers = rw (count_is ∙ sym run.as_many ∙ sym row_count) at accounts.below;
        whole = λ w within. accounts.whole w (omega arith) ∙ sent_in_order shared after w run_at_work (omega arith);
      }

  -- Each number below the count of those drawn stands in the rows once, the pairs that were got and those left inside account for what
  -- was sent, and at least as many were got as there are jobs: so each job was got once.
  pub each_job_got : {count drawn left : ℕ} {puts : List PutPassState} {jobs : JobsState} (got : List WorkerOutcome)
      → count ≡ length before → DealsEachOnce (job_count shared.jobs.now) drawn (drawn_rows (passes_of after))
      → puts ≡ puts_of after → (rest : List WorkerOutcome) × (length rest ≡ left) × Accounts count (sent_by puts) (got ++ rest)
      → jobs ≡ shared.jobs.now → job_count jobs ≤ length got → IsPermutationOfJobs jobs (outcomes_in got)
  each_job_got {drawn = drawn} got count_is deals puts_are inside jobs_are all =
      let own = shared.jobs.now in
      let rows = drawn_numbers (drawn_rows (passes_of after)) in
      let rest = inside.0 in
      let are_shared = shares_of_workers (got ++ rest) count_is deals (rw puts_are at inside.2) in
      let parts = as_many_as_numbers are_shared in
      let split = length-append got rest in
      let jobs_many = ap job_count jobs_are in
      let total = length-job_list own in
      let whole : drawn ≡ length (job_list own) = omega (arith, deals.within) in
      let many : length got ≡ length (job_list own) = omega (arith, deals.within) in
      rw jobs_are (gets_each_job_once own rows got rest (rw whole at are_shared) many)

  -- all jobs were drawn, and if they were drawn by workers the gate knows them
  pub each_job_known : {drawn : ℕ} → 0 < length before
      → DealsEachOnce (job_count shared.jobs.now) drawn (drawn_rows (passes_of after)) → (job : ℕ) → job < job_count shared.jobs.now
      → knows shared.gate.now job ≡ true
  each_job_known {drawn} some deals job low =
      let Known : ℕ → Type 0 = λ n. knows shared.gate.now n ≡ true in
      let spent = λ (k : ℕ) (w : Worker) (within : k < length after). (run.each k w (omega (arith, run.as_many))).spent in
      let all : drawn ≡ job_count shared.jobs.now = deals.spent (some_spent after (omega (arith, run.as_many)) spent) in
      let once = rw (lt-ltb job drawn (omega arith)) at (deals.each_once job) in
      All-at_dealt Known job (drawn_rows (passes_of after)) (omega arith)
      (All-map (λ r. All Known r.numbers) (λ p. p.row) (passes_of after)
      (All-map (λ p. All Known p.row.numbers) (λ w. w.draw_pass) after (λ k w within. (run_at_work k w within).known)))
