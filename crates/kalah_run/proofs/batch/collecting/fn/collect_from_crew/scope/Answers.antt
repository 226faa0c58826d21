-- What crosses to the crew's thread may cross, and what that returns is what it promised: workers that have run.
use denote.Param.Send.{sendable}
use Rattle.std.proofs.{Common.{refl}, Crossing.{crosses}}
use Rattle.kalah_run.proofs.Crossing.{crew_send, worker_send}
use Rattle.kalah_run.proofs.batch.collecting.fn.collect_from_crew.scope.Goals as goal

pub spawn_with-started-requires-send-F : goal.spawn_with-started-requires-send-F
spawn_with-started-requires-send-F g c κs within = search (sendable, crosses, crew_send) depth 60

pub spawn_with-started-requires-send-T : goal.spawn_with-started-requires-send-T
spawn_with-started-requires-send-T g c κs within = search (sendable, crosses, worker_send) depth 60

pub returns : goal.returns
returns g c = record {
  names = (refl, refl);
  ran = (rw (← c.of.ensures) (rw c.in-Ok.ensures.ok at c.join-workers.ensures), c.collect-passes.ensures.collected);
}
