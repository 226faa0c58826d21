-- Jobs that are shared out among workers, and the results received.
use Rattle.std.specs.Prelude.{◌≡◌, ℕ, ◌<◌, ◌==◌, nat_lt, if◌then◌else◌, List, [], ◌∷◌, length, map, sum_by, count_by, All, slice_index_or}

-- how often x stands in the rows
abbrev pub times_in : ℕ → List (List ℕ) → ℕ
times_in x rows = sum_by (λ r. count_by (λ y. y == x) r) rows

-- what worker w sent, of all that was received: pairs of a worker and what it sent
abbrev pub sent_by_worker : {X : Type 0} → ℕ → List (ℕ × X) → List X
sent_by_worker w [] = []
sent_by_worker w (t ∷ ts) = if t.0 == w then t.1 ∷ sent_by_worker w ts else sent_by_worker w ts

-- Each number below n stands in the rows once and no other does; what was received is, of each worker, f of its row, in order.
pub record AreShared {X : Type 0} (n : ℕ) (f : ℕ → X) (rows : List (List ℕ)) (got : List (ℕ × X)) : Type 0 where
  pub each_once : (x : ℕ) → times_in x rows ≡ (if nat_lt x n then 1 else 0)
  pub workers : All (λ t. t.0 < length rows) got
  pub whole : (w : ℕ) → w < length rows → sent_by_worker w got ≡ map f (slice_index_or rows w [])
