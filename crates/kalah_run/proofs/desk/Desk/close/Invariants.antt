use Rattle.std.proofs.Common.{◌≡◌, ◌++◌, vec_len, All}
use Rattle.kalah_run.specs.{drawn_rows, declared.desk.protocol.DeskView.TheVariants.{Closing}, Desk.Protocol.{rows_in}}
use Rattle.kalah_run.proofs.desk.Desk.close.Given as goal

abbrev pub invariant-loop-pass : goal.invariant-loop-pass
invariant-loop-pass l = record {
  table : l.closer.table_id ≡ l.table.shared.table_id;
  passes : All (λ p. p.desk ≡ l.table.shared.table_id) l.rest.items;
  closing : l.closer.me.0 ≡ Closing (rows_in l.closer.me.0);
  rows : drawn_rows l.rest.items ++ rows_in l.closer.me.0 ≡ drawn_rows l.fn.passes.items;
}

abbrev pub decreases-loop-pass : goal.decreases-loop-pass
decreases-loop-pass l = vec_len l.rest
