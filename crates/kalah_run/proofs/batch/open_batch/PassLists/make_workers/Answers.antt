-- A new worker takes the last pass of each list, so the passes left and then those of the workers, the newest first, stay all passes.
use Rattle.std.proofs.{lemmas.Grind.{common_steps}, Common.{arith, ◌∙◌}}
use Rattle.kalah_run.proofs.WorkerLemmas.{one_given, tables_more}
use Rattle.kalah_run.proofs.batch.open_batch.PassLists.make_workers.Goals as goal

pub loop-preserved : goal.loop-preserved
loop-preserved c =
    let so_far = c.loop.invariant in
    let is = c.push_reserved.ensures.items in
    let of = c.new.ensures in
    let draws = rw c.unwrap-draw_pass.ensures at c.pop.ensures.items in
    let puts = rw c.unwrap-put_pass.ensures at c.pop-in-loop.ensures.items in
    let draws_len = rw c.unwrap-draw_pass.ensures at c.pop.ensures.len in
    let puts_len = rw c.unwrap-put_pass.ensures at c.pop-in-loop.ensures.len in
    record {
      left = omega (arith, draws_len);
      as_many = omega (arith, draws_len, puts_len);
      passes = one_given (λ w. w.draw_pass) _ _ is of.passes.0 draws so_far.passes;
      puts = one_given (λ w. w.put_pass) _ _ is of.passes.1 puts so_far.puts;
      tables = tables_more _ _ _ is (rw of.solver c.in_ok-solver.ensures) so_far.tables;
      passes_room = c.pop.ensures.capacity ∙ so_far.passes_room;
      puts_room = c.pop-in-loop.ensures.capacity ∙ so_far.puts_room;
      room = omega (arith, draws_len);
    }

pub returns-clause-empty : goal.returns-clause-empty
returns-clause-empty c = grind (arith, common_steps)

pub returns-clause-puts : goal.returns-clause-puts
returns-clause-puts c = grind (arith, common_steps)

pub returns-clause-passes : goal.returns-clause-passes
returns-clause-passes c = grind (arith, common_steps)
