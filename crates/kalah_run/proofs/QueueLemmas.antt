-- The results queue: its pairs, and each step keeps its protocol.
use Rattle.std.proofs.Common.{◌≡◌, ◌≢◌, ℕ, suc, ◌+◌, ◌<◌, ◌≤◌, List, [], ◌∷◌, ◌++◌, length, All, refl, sym, ap, ◌∙◌, arith, set, append_assoc, length-append}
use Rattle.std.proofs.lemmas.List.{append-nil, length-map, length-set, length_push, map-append, get_or_at}
use Rattle.std.proofs.lemmas.{List.Elements.{All-push}, Bool.Decides.{nat_tests}}
use Rattle.kalah_run.specs.{OutcomeState, WorkerOutcome, QueueView, Accounts, outcomes_in}
use Rattle.kalah_run.specs.declared.queue.protocol.QueueView.TheVariants.{Getting, Putting, Reclaimed}
use Rattle.kalah_run.specs.Queue.Protocol.{FitsPairs, FitsPut, IsLawful, IsWholeAndInOrder, opening_view, after_handing_out, pass_handed_out}
use Rattle.kalah_run.specs.Queue.Protocol.{after_put, after_reclaiming, IsGot, KnowsSent}
use Rattle.kalah_jobs.specs.Collecting.Shares.{sent_by_worker}
use mathlib.Core.Option.{some, some-injective, some-ne-none}
use lib.ListN.{get_elem?}
use Rattle.atomic_table.proofs.Lists.{at_longer, set_else, set_here}
use Rattle.kalah_run.proofs.{ViewLemmas.{each_more, each_set, in_views, was_there}, PassLemmas.{next_goes_last}}
use Rattle.crossbeam_queue.specs.Fifo.{Pushes, Pops, Forks, Held, Merges, Learns}

-- ==== What the pairs determine of one worker, and of all

-- what a worker sent by two lists of pairs is what it sent by the first, and then by the second
sent_by_worker-append : (w : ℕ) (xs ys : List WorkerOutcome) → sent_by_worker w (xs ++ ys) ≡ sent_by_worker w xs ++ sent_by_worker w ys
sent_by_worker-append w [] ys = refl
sent_by_worker-append w (t ∷ ts) ys = grind (arith, sent_by_worker-append w ts ys)

-- one pair more, of the worker itself
own_pair_goes_last : (w : ℕ) (xs : List WorkerOutcome) (x : OutcomeState)
    → sent_by_worker w (xs ++ (w, x) ∷ []) ≡ sent_by_worker w xs ++ x ∷ []
own_pair_goes_last w xs x = grind (arith, nat_tests, sent_by_worker-append w xs ((w, x) ∷ []))

-- one pair more, of another worker
other_pair_changes_nothing : (w : ℕ) (xs : List WorkerOutcome) (t : WorkerOutcome) → t.0 ≢ w
    → sent_by_worker w (xs ++ t ∷ []) ≡ sent_by_worker w xs
other_pair_changes_nothing w xs t apart = grind (arith, nat_tests, sent_by_worker-append w xs (t ∷ []), append-nil (sent_by_worker w xs))

-- there is nothing of a worker who isn't among them
no_pair_beyond_workers : (workers w : ℕ) (xs : List WorkerOutcome) → All (λ t. t.0 < workers) xs → workers ≤ w
    → sent_by_worker w xs ≡ []
no_pair_beyond_workers workers w [] below le = refl
no_pair_beyond_workers workers w (t ∷ ts) below le =
    let first : t.0 < workers = below 0 t (omega arith) in
    let others = no_pair_beyond_workers workers w ts (λ k d lt. below (suc k) d (omega arith)) le in
    grind (arith, nat_tests)

-- ==== What the pass to get knows

-- what the workers sent whose passes were reclaimed
abbrev pub ended_in : QueueView → List (List OutcomeState)
ended_in (Getting workers got ended) = ended
ended_in _ = []

-- ==== Each step keeps the protocol of the results queue

-- a new queue has one pass, the one to get
pub opening_is_lawful : IsLawful [] (opening_view ∷ [])
opening_is_lawful = record {
  workers = 0;
  got = [];
  ended = [];
  inside = [];
  getter = refl;
  count = refl;
  held = refl;
  accounts = record { below = λ k d lt. absurd (omega arith); whole = λ w lt. absurd (omega arith) };
  fits = each_more (FitsPairs [] []) [] opening_view (λ j u e. absurd (some-ne-none u (sym e))) refl;
}

-- the oldest outcome is that of the first pair inside, if the pairs inside have the outcomes that the queue holds
oldest : (x : OutcomeState) (items : List OutcomeState) (inside : List WorkerOutcome) → outcomes_in inside ≡ x ∷ items
    → record { worker : ℕ; rest : List WorkerOutcome; first : inside ≡ (worker, x) ∷ rest; held : outcomes_in rest ≡ items }
oldest x items [] held = absurd (cc)
oldest x items (p ∷ ps) held =
    let outcome_is : p.1 ≡ x = cc in
    record { worker = p.0; rest = ps; first = ap (λ o. (p.0, o) ∷ ps) outcome_is; held = cc }

module _ {items : List OutcomeState} {views : List QueueView} (kept : IsLawful items views) where
  open kept use {workers, got, ended, inside}

  -- the pairs that were taken out, followed by those inside
  abbrev pairs : List WorkerOutcome
  pairs = got ++ inside

  -- the pass to get stands first, and knows what the protocol states
  getter_is_first : (place : ℕ) {v : QueueView} {workers : ℕ} {got : List WorkerOutcome} {ended : List (List OutcomeState)}
      → v ≡ Getting workers got ended → get_elem? views place ≡ some v → (place ≡ 0) × (v ≡ Getting kept.workers kept.got kept.ended)
  getter_is_first place getting has_view =
      let first : place ≡ 0 = kept.fits place _ (has_view ∙ ap some getting) in
      (first, some-injective _ _ (sym has_view ∙ ap (get_elem? views) first ∙ kept.getter))

  -- the view of another pass fits if one pair more was sent, by a worker that has not ended
  fits_more : {place : ℕ} (x : WorkerOutcome) → place ≡ suc x.0 → (j : ℕ) (u : QueueView) → j ≢ place
      → get_elem? views j ≡ some u → FitsPairs (pairs ++ x ∷ []) ended j u
  fits_more x place_is j (Putting number sent) apart has_view =
      let fit : FitsPut pairs ended j number sent = kept.fits j _ has_view in
      let another : x.0 ≢ number = (λ q. apart (fit.place_is ∙ (ap suc (sym q) ∙ sym place_is))) in
      record { place_is = fit.place_is; running = fit.running; all_sent = fit.all_sent ∙ sym (other_pair_changes_nothing number pairs x another) }
  fits_more x place_is j (Getting workers got ended) apart has_view = kept.fits j _ has_view
  fits_more x place_is j Reclaimed apart has_view = tt

  -- the view of another pass fits if one worker more has ended
  fits_ended : {other : ℕ} (list : List OutcomeState) → other ≡ suc (length ended) → (j : ℕ) (u : QueueView) → j ≢ other
      → get_elem? views j ≡ some u → FitsPairs pairs (ended ++ list ∷ []) j u
  fits_ended list other_is j (Putting number sent) apart has_view =
      let fit : FitsPut pairs ended j number sent = kept.fits j _ has_view in
      let another : number ≢ length ended = (λ q. apart (fit.place_is ∙ (ap suc q ∙ sym other_is))) in
      record { place_is = fit.place_is; running = omega (arith, fit.running, length_push ended list); all_sent = fit.all_sent }
  fits_ended list other_is j (Getting workers got ended) apart has_view = kept.fits j _ has_view
  fits_ended list other_is j Reclaimed apart has_view = tt

  -- the pass of a worker that has not ended puts an outcome
  lawful_with_put : (place : ℕ) (x : OutcomeState) {number : ℕ} {sent : List OutcomeState}
      → get_elem? views place ≡ some (Putting number sent) → IsLawful (items ++ x ∷ []) (set views place (Putting number (sent ++ x ∷ [])))
  lawful_with_put place x {number} {sent} has_view =
      let pair : WorkerOutcome = (number, x) in
      let after = Putting number (sent ++ x ∷ []) in
      let fit : FitsPut pairs ended place number sent = kept.fits place _ has_view in
      let fits : FitsPut (pairs ++ pair ∷ []) ended place number (sent ++ x ∷ []) = record {
        place_is = fit.place_is;
        running = fit.running;
        all_sent = ap (◌++ (x ∷ [])) fit.all_sent ∙ sym (own_pair_goes_last number pairs x);
      } in
      record {
        workers = workers;
        got = got;
        ended = ended;
        inside = inside ++ pair ∷ [];
        getter = set_else views place 0 after (λ q. omega (arith, fit.place_is)) ∙ kept.getter;
        count = length-set views place after ∙ kept.count;
        held = map-append (λ p. p.1) inside (pair ∷ []) ∙ ap (◌++ (x ∷ [])) kept.held;
        accounts = rw (← append_assoc got inside (pair ∷ [])) (record {
          below = All-push (λ t. t.0 < workers) pairs pair kept.accounts.below
              (omega (arith, fit.place_is, kept.count, in_views views place has_view));
          whole = λ w low. other_pair_changes_nothing w pairs pair (λ q. omega (arith, fit.running)) ∙ kept.accounts.whole w low;
        });
        fits = rw (← append_assoc got inside (pair ∷ []))
            (each_set (FitsPairs (pairs ++ pair ∷ []) ended) views place after fits (fits_more pair fit.place_is));
      }

  -- a pass is made for the next worker, before any has ended
  lawful_with_pass : ended ≡ []
      → IsLawful items (set views 0 (Getting (workers + 1) got ended) ++ Putting workers [] ∷ [])
  lawful_with_pass none =
      let getter = Getting (workers + 1) got ended in
      let after = set views 0 getter in
      let same : length after ≡ length views = length-set views 0 getter in
      let fresh : FitsPut pairs ended (length after) workers [] = record {
        place_is = same ∙ kept.count;
        running = omega (arith, ap length none);
        all_sent = sym (no_pair_beyond_workers workers workers _ kept.accounts.below (omega arith));
      } in
      record {
        workers = workers + 1;
        got = got;
        ended = ended;
        inside = inside;
        getter = at_longer after (Putting workers [] ∷ []) 0 _ (set_here views 0 getter (in_views views 0 kept.getter));
        count = omega (arith, length_push after (Putting workers []), kept.count);
        held = kept.held;
        accounts = record { below = λ k d lt. omega (arith, kept.accounts.below k d lt); whole = kept.accounts.whole };
        fits = each_more (FitsPairs pairs ended) after (Putting workers [])
            (each_set (FitsPairs pairs ended) views 0 getter refl (λ j u apart has_view. kept.fits j u has_view)) fresh;
      }

  -- the pass of the next worker to end is reclaimed
  lawful_with_end : (other : ℕ) {sent : List OutcomeState} → other ≢ 0 → get_elem? views other ≡ some (Putting (length ended) sent)
      → IsLawful items (set (set views 0 (Getting workers got (ended ++ sent ∷ []))) other Reclaimed)
  lawful_with_end other {sent} apart has_view =
      let getter = Getting workers got (ended ++ sent ∷ []) in
      let between = set views 0 getter in
      let fit : FitsPut pairs ended other (length ended) sent = kept.fits other _ has_view in
      let F : ℕ → QueueView → Type 0 = FitsPairs pairs (ended ++ sent ∷ []) in
      let others = each_set (λ j u. j ≢ other → F j u) views 0 getter (λ _. refl)
      (λ j u elsewhere has_view apart. fits_ended sent fit.place_is j u apart has_view) in
      record {
        workers = workers;
        got = got;
        ended = ended ++ sent ∷ [];
        inside = inside;
        getter = set_else between other 0 Reclaimed (λ q. apart (sym q)) ∙ set_here views 0 getter (in_views views 0 kept.getter);
        count = length-set between other Reclaimed ∙ length-set views 0 getter ∙ kept.count;
        held = kept.held;
        accounts = record {
          below = kept.accounts.below;
          whole = next_goes_last ended sent [] (λ w. sent_by_worker w pairs) kept.accounts.whole (sym fit.all_sent);
        };
        fits = each_set F between other Reclaimed tt (λ j u elsewhere has_view. others j u has_view elsewhere);
      }

-- the oldest outcome is got, which is of one of the workers
lawful_with_get : {x : OutcomeState} {items : List OutcomeState} {views : List QueueView} (kept : IsLawful (x ∷ items) views)
    → (worker : ℕ) × (worker < kept.workers) × IsLawful items (set views 0 (Getting kept.workers (kept.got ++ (worker, x) ∷ []) kept.ended))
lawful_with_get {x} {items} {views} kept =
    let first = oldest x items kept.inside kept.held in
    let pair : WorkerOutcome = (first.worker, x) in
    let below = rw first.first at kept.accounts.below in
    let getter = Getting kept.workers (kept.got ++ pair ∷ []) kept.ended in
    let same : (kept.got ++ pair ∷ []) ++ first.rest ≡ pairs kept =
    append_assoc kept.got (pair ∷ []) first.rest ∙ ap (kept.got ++◌) (sym first.first) in (
      first.worker,
      rw (get_or_at kept.got pair first.rest pair _ refl) at
          (below (length kept.got) pair (omega (arith, length-append kept.got (pair ∷ first.rest)))),
      record {
        workers = kept.workers;
        got = kept.got ++ pair ∷ [];
        ended = kept.ended;
        inside = first.rest;
        getter = set_here views 0 getter (in_views views 0 kept.getter);
        count = length-set views 0 getter ∙ kept.count;
        held = first.held;
        accounts = rw same kept.accounts;
        fits = rw same (each_set (FitsPairs (pairs kept) kept.ended) views 0 getter refl (λ j u apart has_view. kept.fits j u has_view));
      },
    )

-- ---- the same, as a queue asks for it

pub put_is_lawful : (n place : ℕ) {v : QueueView} (x : OutcomeState) {number : ℕ} {sent : List OutcomeState} → v ≡ Putting number sent
    → Pushes IsLawful n place v x (λ w. w ≡ after_put v x)
put_is_lawful n place x putting = rw putting (λ items views room kept has_view. (_, lawful_with_put kept place x has_view, refl))

-- the pass to get
module _ {v : QueueView} {workers : ℕ} {got : List WorkerOutcome} {ended : List (List OutcomeState)}
    (getting : v ≡ Getting workers got ended) where
  pub get_is_lawful : (place : ℕ) → Pops IsLawful place v (IsGot v)
  get_is_lawful place = λ x items views kept has_view.
      let getter = getter_is_first kept place getting has_view in
      let now = lawful_with_get kept in
      rw (getter.0, getter.1) (_, now.2, (now.0, now.1, refl))

  -- it hands out a pass to put, before it has reclaimed any
  pub hand_out_is_lawful : ended ≡ [] → (place : ℕ) → Forks IsLawful place v (after_handing_out v) (pass_handed_out v)
  hand_out_is_lawful none place = λ items views kept has_view.
      let getter = getter_is_first kept place getting has_view in
      rw (getter.0, getter.1) (lawful_with_pass kept (ap ended_in (sym getter.1 ∙ getting) ∙ none))

  -- it reclaims a pass to put
  pub reclaim_is_lawful : (place other : ℕ) {u : QueueView} {number : ℕ} {sent : List OutcomeState} → u ≡ Putting number sent
      → number ≡ length ended → Merges IsLawful place v other u (after_reclaiming v u) Reclaimed
  reclaim_is_lawful place other {sent = sent} putting next = λ items views kept has_view apart has_other.
      let getter = getter_is_first kept place getting has_view in
      let number = next ∙ ap (λ v. length (ended_in v)) (sym getting ∙ getter.1) in
      let here = was_there views place other _ apart has_other ∙ ap some (putting ∙ ap (λ n. Putting n sent) number) in
      rw (getter.0, getter.1, putting) (lawful_with_end kept other (λ q. apart (q ∙ sym getter.0)) here)

  -- what it learns of the queue
  pub getter_knows_sent : (place : ℕ) → Learns IsLawful place v (KnowsSent v)
  getter_knows_sent place = λ items views kept has_view.
      rw (getter_is_first kept place getting has_view).1 (kept.inside, kept.held, kept.accounts)

  -- what it knows once it has reclaimed one pass more
  pub reclaimed : {u after : QueueView} {number : ℕ} {sent : List OutcomeState} → u ≡ Putting number sent
      → after ≡ after_reclaiming v u → after ≡ Getting workers got (ended ++ sent ∷ [])
  reclaimed putting after_is = after_is ∙ λ i. after_reclaiming (getting i) (putting i)

  -- once it has reclaimed all, it learns what all workers have sent
  pub whole_when_reclaimed : {left : ℕ} {all : List (List OutcomeState)} (rest : List (List OutcomeState)) → length rest ≡ 0
      → ended ++ rest ≡ all → Held left (KnowsSent v)
      → (inside : List WorkerOutcome) × (length inside ≡ left) × Accounts workers all (got ++ inside)
  whole_when_reclaimed (x ∷ xs) none whole held = absurd (omega arith)
  whole_when_reclaimed [] none whole held =
      let told : KnowsSent (Getting workers got ended) held.0 = rw getting at held.2 in (
        told.0,
        sym (length-map told.0 (λ p. p.1)) ∙ ap length told.1 ∙ held.1,
        rw (sym (append-nil ended) ∙ whole) at told.2,
      )

-- ==== The protocol of the results queue, in plain words

pub queue_is_lawful : (items : List OutcomeState) (views : List QueueView) → IsLawful items views → IsWholeAndInOrder items views
queue_is_lawful items views kept = record {
  workers = kept.workers;
  got = kept.got;
  inside = kept.inside;
  ended = kept.ended;
  held = kept.held;
  gets = kept.getter;
  no_other_gets = λ place others got lists has_view. kept.fits place (Getting others got lists) has_view;
  below = kept.accounts.below;
  running = λ place worker sent has_view.
      let fit : FitsPut (pairs kept) kept.ended place worker sent = kept.fits place (Putting worker sent) has_view in
      (omega (arith, fit.place_is, kept.count, in_views views place has_view), sym fit.all_sent);
  reclaimed = kept.accounts.whole;
}
