use Rattle.std.proofs.Common.{◌≡◌, ◌≤◌, [], All, vec_len, vec_capacity}
use Rattle.crossbeam_queue.specs.Passes.{view, IsPassOf}
use Rattle.kalah_run.specs.{ArePassesFrom, declared.queue.protocol.QueueView.TheVariants.{Getting}}
use Rattle.kalah_run.proofs.queue.ResultsQueue.open.Given as goal

abbrev pub invariant-loop : goal.invariant-loop
invariant-loop l = record {
  place : IsPassOf l.outcomes l.ruled;
  made : view l.ruled ≡ Getting l.counter [] [];
  count : vec_len l.puts ≡ l.counter;
  room : l.workers ≤ vec_capacity l.puts;
  passes : ArePassesFrom l.outcomes.table.shared.table_id 0 l.puts.items;
  unsent : All (λ p. p.sent ≡ []) l.puts.items;
}
