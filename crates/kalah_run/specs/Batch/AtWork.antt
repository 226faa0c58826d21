-- What is known of workers, before and after they have run.
use Rattle.std.specs.Prelude.{◌≡◌, ℕ, ◌<◌, Bool, true, List, length, map, slice_index_or, All}
use Rattle.kalah_run.specs.{Types.{JobsState, Job}, Desk.States.{PassState, IsPassAt}, Queue.States.{PutPassState}, declared.batch.{shared_work.SharedWork.{SharedWork}, worker.Worker.{Worker}}}
use Rattle.kalah_jobs.specs.Collecting.AnyOrder.{job}

-- the jobs of these numbers, in their order
abbrev pub drawn_jobs : JobsState → List ℕ → List Job
drawn_jobs jobs numbers = map (job jobs) numbers

-- the passes by which the workers draw, and those by which they send
abbrev pub passes_of : List Worker → List PassState
passes_of workers = map (λ w. w.draw_pass) workers

abbrev pub puts_of : List Worker → List PutPassState
puts_of workers = map (λ w. w.put_pass) workers

-- with what a gate knows
module _ {G : Type 0} (knows : G → ℕ → Bool) where
  -- the worker draws at the desk and sends through the queue; the gate knows the jobs of its row, and it has sent their outcomes, in order
  pub record IsAtWork (shared : SharedWork G) (w : Worker) : Type 0 where
    pub draws : IsPassAt shared.desk w.draw_pass
    pub sends : w.put_pass.queue ≡ shared.queue.id
    pub known : All (λ n. knows shared.gate.now n ≡ true) w.draw_pass.row.numbers
    pub sent : w.put_pass.sent ≡ drawn_jobs shared.jobs.now w.draw_pass.row.numbers

  abbrev pub AreAtWork : SharedWork G → List Worker → Type 0
  AreAtWork shared workers = All (IsAtWork shared) workers

  -- the worker has run: it keeps its number, and there is nothing left to draw
  pub record HasRun (shared : SharedWork G) (before after : Worker) : Type 0 where
    pub at_work : IsAtWork shared after
    pub number : after.put_pass.number ≡ before.put_pass.number
    pub spent : after.draw_pass.row.spent ≡ true

  -- each worker has run, and stands in its place
  pub record HaveRun (shared : SharedWork G) (before after : List Worker) : Type 0 where
    pub as_many : length after ≡ length before
    pub each : (k : ℕ) (d : Worker) → k < length before → HasRun shared (slice_index_or before k d) (slice_index_or after k d)
