-- Each round takes one worker apart: its passes go into their lists, which have room for them.
use Rattle.std.proofs.Common.{ap, arith, length}
use Rattle.kalah_run.proofs.WorkerLemmas.{one_taken}
use Rattle.kalah_run.proofs.batch.open_batch.PassLists.take_back.Goals as goal

pub push_reserved-requires : goal.push_reserved-requires
push_reserved-requires c = omega (arith, c.loop-worker.invariant.passes_room, ap length c.in-Some.ensures.steps.0)

pub push_reserved-requires-in-loop-worker : goal.push_reserved-requires-in-loop-worker
push_reserved-requires-in-loop-worker c = omega (arith, c.loop-worker.invariant.puts_room, ap length c.in-Some.ensures.steps.0)

pub loop-worker-preserved : goal.loop-worker-preserved
loop-worker-preserved c =
    let so_far = c.loop-worker.invariant in
    let pass = c.push_reserved.ensures in
    let put = c.push_reserved-in-loop-worker.ensures in
    let one_less = ap length c.in-Some.ensures.steps.0 in
    record {
      passes = one_taken (λ w. w.draw_pass) _ _ pass.items so_far.passes;
      puts = one_taken (λ w. w.put_pass) _ _ put.items so_far.puts;
      passes_room = omega (arith, pass.len, pass.capacity, so_far.passes_room);
      puts_room = omega (arith, put.len, put.capacity, so_far.puts_room);
    }
