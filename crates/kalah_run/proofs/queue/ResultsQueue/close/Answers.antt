-- Each pass that is absorbed adds what its worker sent to what the getter knows of the ended. With all absorbed it knows all that was sent:
-- what was got, and then what is left inside.
use Rattle.std.proofs.{lemmas.List.{length-map, length_push}, Common.{◌≡◌, ◌∷◌, ◌++◌, [], ◌∙◌, ap, append_assoc, arith, length, subst, sym}}
use Rattle.std.specs.Vec.Iter.{into_iter_deque, into_iter_items}
use Rattle.crossbeam_queue.specs.Passes.{view}
use Rattle.kalah_run.specs.{ArePassesFrom, sent_by, declared.queue.protocol.QueueView.TheVariants.{Getting, Putting}}
use Rattle.kalah_run.proofs.QueueLemmas.{reclaim_is_lawful, getter_knows_sent, reclaimed, whole_when_reclaimed, ended_in}
use Rattle.kalah_run.proofs.queue.ResultsQueue.close.Goals as goal

pub absorb-requires-clause-rule : goal.absorb-requires-clause-rule
absorb-requires-clause-rule g c =
    let step : into_iter_items c.loop-put.put-iterator ≡ c.in-Some.put ∷ into_iter_items c.next.new.self = c.in-Some.ensures.steps.0 in
    let passes = rw step at c.loop-put.invariant.passes in
    reclaim_is_lawful c.loop-put.invariant.getting _ _ c.put.invariant.1 (ap (λ p. p.number) c.put.view_is ∙ passes.1)

pub len_as-left-requires-clause-rule : goal.len_as-left-requires-clause-rule
len_as-left-requires-clause-rule g c = getter_knows_sent c.loop-put.invariant.getting _

pub returns-clause-whole : goal.returns-clause-whole
returns-clause-whole g c =
    let so_far = c.loop-put.invariant in
    let rest = c.loop-put.put-iterator in
    whole_when_reclaimed so_far.getting (sent_by (into_iter_items rest))
    (omega (arith, c.in-None.ensures.steps.0, (into_iter_deque rest).ok.0, length-map (into_iter_items rest) (λ p. p.sent)))
    so_far.ended c.len_as-left.ensures.rule.1

pub loop-put-preserved : goal.loop-put-preserved
loop-put-preserved g c =
    let so_far = c.loop-put.invariant in
    let same = c.absorb.ensures.queue in
    let ended = ended_in (view c.loop-put.ruled) in
    let put = c.in-Some.put in
    let rest = into_iter_items c.next.new.self in
    let step : into_iter_items c.loop-put.put-iterator ≡ put ∷ rest = c.in-Some.ensures.steps.0 in
    let passes = rw step at so_far.passes in
    let now = reclaimed so_far.getting
    (c.put.invariant.1 ∙ ap (λ p. Putting p.number p.sent) c.put.view_is) c.absorb.ensures.rule in
    let more = ap ended_in now in
    record {
      place = (same.0 ∙ so_far.place.0, same.2 ∙ so_far.place.1);
      getting = now ∙ ap (Getting c.args.pass.workers c.args.pass.got) (sym more);
      passes = subst (λ n. ArePassesFrom c.self.inside.outcomes.table.shared.table_id n rest)
          (omega (arith, ap length more, length_push ended put.sent)) passes.2;
      ended = ap (◌++ sent_by rest) more ∙ append_assoc ended (put.sent ∷ []) (sent_by rest)
          ∙ ap (λ l. ended ++ sent_by l) (sym step) ∙ so_far.ended;
    }
