use Rattle.std.proofs.{Common.{◌∙◌, ap, length, sym}, lemmas.List.{with_items_is}}
use denote.Param.Send.{sendable}
use Rattle.kalah_run.proofs.Crossing.{worker_send}
use Rattle.kalah_run.proofs.batch.crew.Crew.run.Goals as goal

pub for_each_mut-requires-send-T : goal.for_each_mut-requires-send-T
for_each_mut-requires-send-T g c κs within = search (sendable, worker_send)

pub returns : goal.returns
returns g c =
    let as_many = c.for_each_mut.auto.s in
    rw (with_items_is c.args.self.workers c.for_each_mut.new.s (as_many ∙ ap length c.as_mut_slice.ensures.value ∙ sym c.args.self.workers.ok.0))
    (rw (← c.as_mut_slice.ensures.value) (record {
      as_many = as_many;
      each = λ k w low. let ran = (c.for_each_mut.ensures k w low).1 in rw (← ran.left, ← ran.argument_is) ran.call;
    }))
