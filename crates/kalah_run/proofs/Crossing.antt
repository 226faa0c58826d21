-- What of a batch may cross threads. The search for it goes by parts: for a whole worker it is too long.
use denote.RattleType.{RattleType}
use denote.Param.Send.{IsSend, IsSync, sendable}
use denote.Ref.{NamedLft}
use Rattle.std.proofs.Crossing.{crosses}
use Rattle.atomic_table.specs.contracts.shared.Seat as Seat
use Rattle.atomic_table.proofs.Sent.{seat_keyless}
use Rattle.kalah_solve.proofs.Crossing.{Solver-send, shared_sync, lease_sync}
use Rattle.kalah_jobs.specs.contracts.files.jobs.Jobs as Jobs
use Rattle.kalah_run.specs.contracts.desk.Desk as Desk
use Rattle.kalah_run.specs.contracts.queue.ResultsQueue as ResultsQueue
use Rattle.kalah_run.specs.contracts.batch.shared_work.SharedWork as SharedWork
use Rattle.kalah_jobs.specs.contracts.collecting.outcome.Outcome as Outcome
use Rattle.kalah_run.specs.contracts.batch.crew.Crew as Crew
use Rattle.kalah_run.specs.contracts.batch.worker.Worker as Worker

seat_send : (S V : RattleType) → IsSend S → IsSend (Seat.the_row S V)
seat_send S V s = record {
  owned = λ d vs. ((λ vss. (tt, ((λ uss. (tt, tt)), tt))), seat_keyless S s V.coded.code d.table_id d.id d.me);
  leaving = λ k f vs. tt;
}

outcome_send : IsSend Outcome.the_row
outcome_send = search (sendable, crosses) depth 60

-- jobs, the desk and the results queue may be shared
jobs_sync : IsSync Jobs.the_row
jobs_sync = search (sendable, crosses) depth 60

pub desk_sync : IsSync Desk.the_row
desk_sync = search (sendable, crosses, shared_sync, lease_sync) depth 60

pub queue_sync : IsSync ResultsQueue.the_row
queue_sync = search (sendable, crosses, shared_sync, lease_sync, outcome_send) depth 60

-- what workers share may be shared
shared_work_sync : (κ : NamedLft) (G : RattleType) → IsSync G → IsSync (SharedWork.the_row κ G)
shared_work_sync κ G s = search (sendable, crosses, jobs_sync, desk_sync, queue_sync) depth 60

pub worker_send : IsSend Worker.the_row
worker_send = search (sendable, crosses, seat_send, outcome_send, Solver-send) depth 60

-- all workers with what they share may cross
pub crew_send : (κ κ' : NamedLft) (G : RattleType) → IsSync G → IsSend (Crew.the_row κ κ' G)
crew_send κ κ' G s = search (sendable, crosses, shared_work_sync, worker_send) depth 60
