use Rattle.std.proofs.Common.{◌≡◌, ◌≤◌, ◌+◌, ◌++◌, reverse, vec_len, vec_capacity}
use Rattle.kalah_run.specs.{passes_of, puts_of, HaveOwnTables}
use Rattle.kalah_run.proofs.batch.open_batch.PassLists.make_workers.Given as goal

abbrev pub invariant-loop : goal.invariant-loop
invariant-loop l = record {
  left : vec_len l.self.draw_passes + l.counter ≡ vec_len l.fn.self.draw_passes;
  as_many : vec_len l.self.draw_passes ≡ vec_len l.self.put_passes;
  passes : l.self.draw_passes.items ++ passes_of (reverse l.workers.items) ≡ l.fn.self.draw_passes.items;
  puts : l.self.put_passes.items ++ puts_of (reverse l.workers.items) ≡ l.fn.self.put_passes.items;
  tables : HaveOwnTables l.fn.table_entries (reverse l.workers.items);
  passes_room : vec_capacity l.self.draw_passes ≡ vec_capacity l.fn.self.draw_passes;
  puts_room : vec_capacity l.self.put_passes ≡ vec_capacity l.fn.self.put_passes;
  room : vec_len l.self.draw_passes + vec_len l.workers ≤ vec_capacity l.workers;
}
