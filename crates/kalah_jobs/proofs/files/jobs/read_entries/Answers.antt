use Rattle.std.proofs.{Common.{arith}, lemmas.{Grind.{common_steps}, List.Sums.{count_by-le-length}}}
use Rattle.kalah_jobs.specs.{is_faulty_entry}
use Rattle.kalah_jobs.proofs.files.jobs.read_entries.Goals as goal

-- there are no more faults than entries
pub overflow_add-faults : goal.overflow_add-faults
overflow_add-faults c =
    let few = count_by-le-length is_faulty_entry c.loop-rest.entries.items in
    omega (arith, c.loop-rest.invariant.faults, c.loop-rest.entries.ok, c.loop-rest.entries.small)

pub loop-rest-preserved : goal.loop-rest-preserved
loop-rest-preserved c = grind (arith, common_steps)
