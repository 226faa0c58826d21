-- Each round hands out a pass to put, with the next number, and the rule of the shared word holds with one pass more.
use Rattle.std.proofs.{lemmas.{Grind.{common_steps}, List.Elements.{All-push}}, Common.{rules, arith, ◌≡◌, ◌+◌, [], ap, refl, ◌∙◌}}
use Rattle.kalah_run.specs.Queue.Protocol.{sent_in, after_handing_out, pass_handed_out}
use Rattle.kalah_run.proofs.{QueueLemmas.{opening_is_lawful, hand_out_is_lawful}, PassLemmas.{put_pass_more}}
use Rattle.kalah_run.proofs.queue.ResultsQueue.open.Goals as goal

pub ruled-requires-clause-rule : goal.ruled-requires-clause-rule
ruled-requires-clause-rule c = opening_is_lawful

pub another-theirs-requires-clause-rule : goal.another-theirs-requires-clause-rule
another-theirs-requires-clause-rule c = hand_out_is_lawful c.loop.invariant.made refl _

pub loop-preserved : goal.loop-preserved
loop-preserved c =
    let so_far = c.loop.invariant in
    let queue = c.another-theirs.ensures.queue in
    let views = c.another-theirs.ensures.rule in record {
      place = (queue.0.0 ∙ so_far.place.0, queue.0.2 ∙ so_far.place.1);
      made = views.0 ∙ ap after_handing_out so_far.made;
      count = c.push_reserved.ensures.len ∙ ap (◌+ 1) so_far.count;
      room = omega arith;
      passes = rw c.push_reserved.ensures.items (put_pass_more _ 0 _ _ so_far.passes queue.1.0 (search rules));
      unsent =
          rw c.push_reserved.ensures.items (All-push (λ p. p.sent ≡ []) _ _ so_far.unsent
          (ap sent_in (views.1 ∙ ap pass_handed_out so_far.made)));
    }

pub returns-clause-puts : goal.returns-clause-puts
returns-clause-puts c = grind (arith, common_steps)
