-- The most workers of a batch, and the largest capacity of a results queue.
use Rattle.std.specs.Prelude.{◌<◌, ◌≤◌, ℕ, suc}
pub use Rattle.kalah_solve.specs.Table.Entries.{IsTableSize}
use Rattle.kalah_run.specs.declared.limits.TheConstants.{MOST_CAPACITY, MOST_WORKERS}

abbrev pub most_workers : ℕ
most_workers = MOST_WORKERS

-- a number of workers that a batch may have
abbrev pub IsWorkerCount : ℕ → Type 0
IsWorkerCount workers = (0 < workers) × (workers ≤ most_workers)

-- the most passes of a desk: one for each worker, and one for the calling thread
abbrev pub most_passes : ℕ
most_passes = suc most_workers

abbrev pub most_capacity : ℕ
most_capacity = MOST_CAPACITY

-- a capacity that a queue may have
abbrev pub IsQueueCapacity : ℕ → Type 0
IsQueueCapacity capacity = (0 < capacity) × (capacity ≤ most_capacity)
