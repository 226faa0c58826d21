-- Of the new passes the last one is the calling thread's, and the workers have the others; nothing was drawn, sent or got.
use Rattle.std.proofs.Common.{◌≡◌, ◌+◌, [], ap, arith, length, refl, subst, sym, ◌∙◌}
use Rattle.kalah_run.specs.{GetPassState, ArePassesFrom, new_pass}
use Rattle.kalah_run.proofs.{WorkerLemmas.{as_many_workers, new_at_work}, PassLemmas.{last_new_pass}}
use Rattle.kalah_run.proofs.batch.open_batch.OpenBatch.open.Goals as goal

pub returns-clause-asked : goal.returns-clause-asked
returns-clause-asked g c = record {
  workers =
      let many = as_many_workers _ c.in_ok-workers.ensures.passes
      (last_new_pass c.in_ok-desk.desk _ _ _ (rw c.unwrap-rest_pass.ensures at c.pop.ensures.items) c.in_ok-desk.ensures.passes).0.0 in
      omega (arith, c.max-count.ensures, c.min.ensures, c.total-total.ensures.lines);
  tables = c.in_ok-workers.ensures.tables;
  of_files = c.in_ok-output.ensures.of.0;
  of_jobs = refl;
  on_failed_write = refl;
  of_gate = refl;
  queue = c.in_ok-queue.ensures.queue;
}

pub returns-clause-ready : goal.returns-clause-ready
returns-clause-ready g c =
    let queue = c.in_ok-queue.ensures in
    let workers = c.in_ok-workers.ensures in
    -- the passes of the workers are new, and so is that of the calling thread
    let new = last_new_pass c.in_ok-desk.desk _ _ _ (rw c.unwrap-rest_pass.ensures at c.pop.ensures.items) c.in_ok-desk.ensures.passes in
    let many : length c.in_ok-workers.workers.items ≡ c.max-count.result = as_many_workers _ workers.passes new.0.0 in
    record {
      some_worker = omega (arith, c.max-count.ensures);
      passes = c.in_ok-desk.ensures.desk.1 ∙ ap (◌+ 1) (sym many);
      rest_pass = new.1 ∙ ap (new_pass c.in_ok-desk.desk) (sym many);
      at_work = new_at_work _ _ _ workers.passes workers.puts new.0 queue.puts.1 queue.puts.2;
      put_passes = subst (ArePassesFrom c.in_ok-queue.queue.id 0) (sym workers.puts) queue.puts.1;
      get_pass = queue.get ∙ ap (λ n. let p : GetPassState = record { queue = c.in_ok-queue.queue.id; workers = n; got = [] } in p) (sym many);
      output = c.in_ok-output.ensures.new;
      jobs = c.in_ok-output.ensures.of.1;
      room = record {
        empty = workers.empty;
        passes = omega (arith, workers.room.0, c.pop.ensures.capacity, c.in_ok-desk.passes.ok, c.in_ok-desk.ensures.passes.0);
        puts = omega (arith, workers.room.1, c.in_ok-queue.puts.ok, queue.puts.0);
      };
    }

pub make_workers-requires-clause-table : goal.make_workers-requires-clause-table
make_workers-requires-clause-table g c = c.args.request.now.table_size
