use Rattle.std.proofs.Common.{◌≡◌, ◌-◌, [], vec_capacity}
use Rattle.kalah_run.specs.{AreNewPasses, declared.desk.protocol.DeskView.TheVariants.{Opening}}
use Rattle.kalah_run.proofs.desk.Desk.open.Given as goal

abbrev pub invariant-loop : goal.invariant-loop
invariant-loop l = record {
  table : l.opener.table_id ≡ l.table.shared.table_id;
  opener : l.opener.me ≡ (Opening l.table.shared.key.total l.counter (l.passes - l.counter), []);
  room : vec_capacity l.handed_out ≡ l.passes;
  handed_out : AreNewPasses (record { id = l.table.shared.table_id; total = l.table.shared.key.total; passes = l.passes }) l.counter
      l.handed_out.items;
}
