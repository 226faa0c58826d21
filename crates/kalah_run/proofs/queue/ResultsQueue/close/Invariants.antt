use Rattle.std.{proofs.Common.{◌≡◌, ◌++◌, length}, specs.Vec.Iter.{into_iter_items}}
use Rattle.crossbeam_queue.specs.Passes.{view, IsPassOf}
use Rattle.kalah_run.specs.{ArePassesFrom, sent_by, declared.queue.protocol.QueueView.TheVariants.{Getting}}
use Rattle.kalah_run.proofs.QueueLemmas.{ended_in}
use Rattle.kalah_run.proofs.queue.ResultsQueue.close.Given as goal

abbrev pub invariant-loop-put : goal.invariant-loop-put
invariant-loop-put g l =
    let rest = into_iter_items l.put-iterator in
    let ended = ended_in (view l.ruled) in record {
      place : IsPassOf l.outcomes l.ruled;
      getting : view l.ruled ≡ Getting l.fn.pass.workers l.fn.pass.got ended;
      passes : ArePassesFrom l.outcomes.table.shared.table_id (length ended) rest;
      ended : ended ++ sent_by rest ≡ sent_by l.fn.puts.items;
    }
