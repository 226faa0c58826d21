-- The results queue and its passes, as contracts see them, and what was sent through it.
use Rattle.std.specs.Prelude.{◌≡◌, ℕ, suc, ◌<◌, List, [], ◌∷◌, ◌++◌, map, length, slice_index_or, All, Option, MatchOption}
use Rattle.atomic_table.specs.Seated.{TableId}
use Rattle.kalah_run.specs.Types.{OutcomeState}
use Rattle.kalah_jobs.specs.Collecting.Shares.{sent_by_worker}

-- an outcome, with the number of the worker that sent it
abbrev pub WorkerOutcome : Type 0
WorkerOutcome = ℕ × OutcomeState

-- the identity of the queue, and its capacity
pub record QueueState : Type 0 where
  pub id : TableId
  pub capacity : ℕ

-- the queue that the pass puts to, its worker's number, and all that was put through it, in order
pub record PutPassState : Type 0 where
  pub queue : TableId
  pub number : ℕ
  pub sent : List OutcomeState

-- the queue that the pass gets from, the number of workers, and all that was got, in order
pub record GetPassState : Type 0 where
  pub queue : TableId
  pub workers : ℕ
  pub got : List WorkerOutcome

-- the outcome of one of the workers stands after what was got
abbrev pub HasGot : GetPassState → OutcomeState → GetPassState → Type 0
HasGot before outcome after = (worker : ℕ) × (worker < before.workers)
    × (after ≡ record before { got = before.got ++ (worker, outcome) ∷ [] })

-- an outcome was got, or none and the pass is as it was
abbrev pub MayGet : GetPassState → Option OutcomeState → GetPassState → Type 0
MayGet before result after = MatchOption result (after ≡ before) (λ outcome. HasGot before outcome after)

-- the passes to put to one queue of worker n, worker n + 1 and so on
abbrev pub ArePassesFrom : TableId → ℕ → List PutPassState → Type 0
ArePassesFrom id n [] = Unit {0}
ArePassesFrom id n (p ∷ ps) = (p.queue ≡ id) × (p.number ≡ n) × ArePassesFrom id (suc n) ps

-- what each pass has sent
abbrev pub sent_by : List PutPassState → List (List OutcomeState)
sent_by passes = map (λ p. p.sent) passes

-- the outcomes of pairs of a worker and its outcome
abbrev pub outcomes_in : List WorkerOutcome → List OutcomeState
outcomes_in pairs = map (λ pair. pair.1) pairs

-- The pairs of a worker and its outcome are all that was sent: each is of a worker below `workers`, and those of a worker in list `sent`
-- are what it sent, whole and in its order.
pub record Accounts (workers : ℕ) (sent : List (List OutcomeState)) (pairs : List WorkerOutcome) : Type 0 where
  pub below : All (λ pair. pair.0 < workers) pairs
  pub whole : (w : ℕ) → w < length sent → sent_by_worker w pairs ≡ slice_index_or sent w []
