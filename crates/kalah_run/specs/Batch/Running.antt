-- What is known of a batch: once it is open, while it is run, and when it has ended.
use Rattle.std.specs.{Prelude.{◌≡◌, ℕ, ◌+◌, ◌<◌, ◌≤◌, Bool, max, min, List, [], length, vec_capacity, ◌⊎◌, Option, IfNone, MatchOption, All}, declared.alloc.Global.{Global}}
use Rattle.crossbeam_utils.specs.Padded.{padded_value}
use Rattle.kalah_solve.specs.{declared.solver.Solver.{Solver}, Solver.EmptyTable.{HasEmptyTable}}
use Rattle.kalah_run.specs.{Types.{JobsState, OutcomeState}, Desk.States.{IsPassAt, new_pass}, Queue.States.{ArePassesFrom, MayGet, outcomes_in}}
use Rattle.kalah_run.specs.Batch.{AtWork.{puts_of, AreAtWork}, OrderedOutput.{IsNew, whole_output}}
use Rattle.kalah_run.specs.Batch.Leaving.{IsLeft, HasDrawnNothing, IsAbandoned, DrawsOnlyTheRest}
use Rattle.kalah_run.specs.declared.batch.{request.BatchRequest.{BatchRequest}, worker.Worker.{Worker}}
use Rattle.kalah_run.specs.declared.batch.open_batch.{OpenBatch.{OpenBatch}, PassLists.{PassLists}}
use Rattle.kalah_run.specs.declared.batch.{receiver.{CallerPasses.{CallerPasses}, Receiver.{Receiver}}, ordered_output.OrderedOutput.{OrderedOutput}}
use Rattle.kalah_run.specs.declared.limits.TheConstants.{QUEUE_CAPACITY}
use Rattle.kalah_jobs.specs.{Files.Jobs.{job_count}, Writing.Sink.{SinkState, WasGiven}, Collecting.AnyOrder.{IsPermutationOfJobs}}

-- the worker has an empty table with room for this many entries
abbrev pub HasOwnTable : ℕ → Worker → Type 0
HasOwnTable entries w = HasEmptyTable entries (padded_value {T = Solver Global} w.solver)

abbrev pub HaveOwnTables : ℕ → List Worker → Type 0
HaveOwnTables entries workers = All (HasOwnTable entries) workers

-- the lists are empty, and have room for the passes of `workers` workers and that of the calling thread
pub record HasRoom (workers : ℕ) (lists : PassLists) : Type 0 where
  pub empty : (lists.draw_passes.items ≡ []) × (lists.put_passes.items ≡ [])
  pub passes : workers < vec_capacity lists.draw_passes
  pub puts : workers ≤ vec_capacity lists.put_passes

module _ {G : Type 0} where
  -- for this request, with these jobs and this gate: there are the workers asked for, but at most one for each job, and one if there is no
  -- job; each has its table, and the queue has its places
  pub record IsAsAsked (request : BatchRequest) (jobs : JobsState) (gate : G) (b : OpenBatch G) : Type 0 where
    pub workers : length b.workers.items ≡ max 1 (min request.workers (job_count jobs))
    pub tables : HaveOwnTables request.table b.workers.items
    pub of_files : b.output.files.now ≡ request.files.now
    pub of_jobs : b.shared.jobs.now ≡ jobs
    pub on_failed_write : b.on_failed_write ≡ request.on_failed_write
    pub of_gate : b.shared.gate.now ≡ gate
    pub queue : b.shared.queue.capacity ≡ QUEUE_CAPACITY

  -- there is a worker; each is at work and has its place, nothing was got, and nothing is written
  pub record IsReadyToRun (knows : G → ℕ → Bool) (b : OpenBatch G) : Type 0 where
    pub some_worker : 0 < length b.workers.items
    pub passes : b.shared.desk.passes ≡ length b.workers.items + 1
    pub rest_pass : b.caller.rest_pass ≡ new_pass b.shared.desk (length b.workers.items)
    pub at_work : AreAtWork knows b.shared b.workers.items
    pub put_passes : ArePassesFrom b.shared.queue.id 0 (puts_of b.workers.items)
    pub get_pass : b.caller.get_pass ≡ record { queue = b.shared.queue.id; workers = length b.workers.items; got = [] }
    pub output : IsNew b.output
    pub jobs : b.output.jobs.now ≡ b.shared.jobs.now
    pub room : HasRoom (length b.workers.items) b.lists

-- The receiver got an outcome that was to come, or none, and has drawn only the rest.
pub record Receives (has_failed : Bool) (before : Receiver) (result : Option OutcomeState) (after : Receiver) : Type 0 where
  pub got : MayGet before.passes.get_pass result after.passes.get_pass
  pub draws : DrawsOnlyTheRest has_failed before after
  pub fewer : MatchOption result (after.to_come ≤ before.to_come) (λ _. after.to_come < before.to_come)

-- nothing was got or drawn by the receiver, and nothing is written
pub record IsAtStart (receiver : Receiver) (output : OrderedOutput) : Type 0 where
  pub ungot : receiver.passes.get_pass.got ≡ []
  pub undrawn : HasDrawnNothing receiver.passes.rest_pass
  pub jobs : receiver.desk.now.total ≡ job_count output.jobs.now
  pub unwritten : IsNew output

-- with the state of a sink
module _ {W : Type 0} (state : W → SinkState) where
  -- An outcome was got, or none as none is to come. Nothing was written.
  pub record GetsNext (before : Receiver) (old : W) (result : Option OutcomeState) (after : Receiver) (new : W) : Type 0 where
    pub receives : Receives (state new).has_failed before result after
    pub ended : IfNone result (after.to_come ≡ 0)
    pub unwritten : WasGiven state old new []

  -- An outcome was got for each job that the calling thread has not drawn. It has drawn some only if the rest is left, and then nothing
  -- remains to be drawn. If the outcomes are those of all jobs, or the rest is left, the sink was given what is to be written.
  pub record HasCollected (output : OrderedOutput) (old new : W) (before : Receiver) (after : CallerPasses) : Type 0 where
    pub queue : after.get_pass.queue ≡ before.passes.get_pass.queue
    pub workers : after.get_pass.workers ≡ before.passes.get_pass.workers
    pub own : IsPassAt before.desk.now after.rest_pass
    pub got_or_left : job_count output.jobs.now ≤ length after.get_pass.got + length after.rest_pass.row.numbers
    pub left : HasDrawnNothing after.rest_pass ⊎ IsLeft before.on_failed_write (state new).has_failed after.rest_pass
    pub given : IsPermutationOfJobs output.jobs.now (outcomes_in after.get_pass.got)
        ⊎ IsAbandoned before.on_failed_write (state new).has_failed → WasGiven state old new (whole_output output)
