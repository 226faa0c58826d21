use Rattle.std.{proofs.Common.{◌≡◌, ◌+◌, ◌≤◌, length, vec_len, vec_capacity}, specs.Vec.Iter.{into_iter_items}}
use Rattle.kalah_run.specs.{passes_of, puts_of}
use Rattle.kalah_run.proofs.batch.open_batch.PassLists.take_back.Given as goal

abbrev pub invariant-loop-worker : goal.invariant-loop-worker
invariant-loop-worker l = record {
  passes : l.self.draw_passes.items ≡ passes_of l.yielded;
  puts : l.self.put_passes.items ≡ puts_of l.yielded;
  passes_room : length (into_iter_items l.worker-iterator) + (vec_len l.self.draw_passes + 1) ≤ vec_capacity l.self.draw_passes;
  puts_room : length (into_iter_items l.worker-iterator) + vec_len l.self.put_passes ≤ vec_capacity l.self.put_passes;
}
