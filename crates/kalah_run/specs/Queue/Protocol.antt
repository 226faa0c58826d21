-- The protocol of the results queue: of each worker, what was got, followed by what the queue holds, is what it has sent, in its order.
use Rattle.std.specs.Prelude.{◌≡◌, ℕ, suc, ◌≤◌, List, ◌++◌, length, ◌<◌, All, slice_index_or, [], ◌+◌, ◌∷◌}
use mathlib.Core.Option.{some}
use lib.ListN.{get_elem?}
use Rattle.kalah_run.specs.{Types.{OutcomeState, QueueView}, declared.queue.protocol.QueueView.TheVariants.{Getting, Putting, Reclaimed}, Queue.States.{WorkerOutcome, Accounts, outcomes_in}}
use Rattle.kalah_jobs.specs.Collecting.Shares.{sent_by_worker}

-- A pass to put stands after the one to get, at the place of its worker's number. It knows what that worker has sent, whose pass is
-- not reclaimed.
pub record FitsPut (pairs : List WorkerOutcome) (ended : List (List OutcomeState)) (place number : ℕ) (sent : List OutcomeState)
    : Type 0 where
  pub place_is : place ≡ suc number
  pub running : length ended ≤ number
  pub all_sent : sent ≡ sent_by_worker number pairs

-- the view of the pass at this place fits all pairs, if `ended` is what the workers of the reclaimed passes sent
abbrev pub FitsPairs : List WorkerOutcome → List (List OutcomeState) → ℕ → QueueView → Type 0
FitsPairs pairs ended place (Putting number sent) = FitsPut pairs ended place number sent
FitsPairs pairs ended place (Getting workers got others) = place ≡ 0
FitsPairs pairs ended place Reclaimed = Unit {0}

-- The one pass to get stands first, and knows how many workers have a pass to put, which pairs were got, and what the workers of
-- the reclaimed passes sent. The pairs inside have the outcomes that the queue holds, and each view fits all pairs.
pub record IsLawful (items : List OutcomeState) (views : List QueueView) : Type 0 where
  pub workers : ℕ
  pub got : List WorkerOutcome
  pub ended : List (List OutcomeState)
  pub inside : List WorkerOutcome
  pub getter : get_elem? views 0 ≡ some (Getting workers got ended)
  pub count : length views ≡ suc workers
  pub held : outcomes_in inside ≡ items
  pub accounts : Accounts workers ended (got ++ inside)
  pub fits : (place : ℕ) (v : QueueView) → get_elem? views place ≡ some v → FitsPairs (got ++ inside) ended place v

-- ==== How each step changes what a pass knows

-- the one pass of a new queue is the one to get
abbrev pub opening_view : QueueView
opening_view = Getting 0 [] []

-- the number of the worker whose pass it is
abbrev pub worker_in : QueueView → ℕ
worker_in (Putting number sent) = number
worker_in _ = 0

-- what was put through the pass
abbrev pub sent_in : QueueView → List OutcomeState
sent_in (Putting number sent) = sent
sent_in _ = []

-- the number of workers for whom a pass was made
abbrev pub workers_in : QueueView → ℕ
workers_in (Getting workers got ended) = workers
workers_in _ = 0

-- what was got through the pass
abbrev pub got_in : QueueView → List WorkerOutcome
got_in (Getting workers got ended) = got
got_in _ = []

-- one pass more was handed out
abbrev pub after_handing_out : QueueView → QueueView
after_handing_out (Getting workers got ended) = Getting (workers + 1) got ended
after_handing_out view = view

-- the pass that it hands out: it has sent nothing
abbrev pub pass_handed_out : QueueView → QueueView
pass_handed_out (Getting workers got ended) = Putting workers []
pass_handed_out _ = Reclaimed

-- the outcome is put after what was sent
abbrev pub after_put : QueueView → OutcomeState → QueueView
after_put (Putting number sent) outcome = Putting number (sent ++ outcome ∷ [])
after_put view outcome = view

-- the pair stands after what was got
abbrev pub after_get : QueueView → WorkerOutcome → QueueView
after_get (Getting workers got ended) pair = Getting workers (got ++ pair ∷ []) ended
after_get view pair = view

-- the outcome is got: it is of a worker for whom a pass was made
abbrev pub IsGot : QueueView → OutcomeState → QueueView → Type 0
IsGot before outcome after = (worker : ℕ) × (worker < workers_in before) × (after ≡ after_get before (worker, outcome))

-- a pass is reclaimed: what it has sent stands after what those before it did
abbrev pub after_reclaiming : QueueView → QueueView → QueueView
after_reclaiming (Getting workers got ended) other = Getting workers got (ended ++ sent_in other ∷ [])
after_reclaiming view other = view

-- what was got, followed by what the queue holds, is all that the workers of the reclaimed passes sent
abbrev pub KnowsSent : QueueView → List OutcomeState → Type 0
KnowsSent (Getting workers got ended) items = (inside : List WorkerOutcome) × (outcomes_in inside ≡ items)
    × Accounts workers ended (got ++ inside)
KnowsSent _ items = Unit {0}

-- ==== The protocol of the results queue, in plain words

-- One pass gets, and it stands first. Each outcome that was got or is inside is of one of the workers, and of each worker these are,
-- in its order, what it sent: as its own pass knows while it runs, and as the pass to get knows once it was reclaimed.
pub record IsWholeAndInOrder (items : List OutcomeState) (views : List QueueView) : Type 0 where
  pub workers : ℕ
  pub got : List WorkerOutcome
  pub inside : List WorkerOutcome
  pub ended : List (List OutcomeState)
  pub held : outcomes_in inside ≡ items
  pub gets : get_elem? views 0 ≡ some (Getting workers got ended)
  pub no_other_gets : (place others : ℕ) (pairs : List WorkerOutcome) (lists : List (List OutcomeState))
      → get_elem? views place ≡ some (Getting others pairs lists) → place ≡ 0
  pub below : All (λ pair. pair.0 < workers) (got ++ inside)
  pub running : (place worker : ℕ) (sent : List OutcomeState) → get_elem? views place ≡ some (Putting worker sent)
      → (worker < workers) × (sent_by_worker worker (got ++ inside) ≡ sent)
  pub reclaimed : (worker : ℕ) → worker < length ended → sent_by_worker worker (got ++ inside) ≡ slice_index_or ended worker []

-- between any two steps of any threads, for any contents of the queue
abbrev pub QueueIsLawful : Type 0
QueueIsLawful = (items : List OutcomeState) (views : List QueueView) → IsLawful items views → IsWholeAndInOrder items views
