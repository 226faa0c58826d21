-- The front goes on while the next answer is there: each turn makes one more line ready, and it stops at one that is missing.
use Rattle.std.proofs.{Common.{◌≤◌, ap, arith, rules}, lemmas.Grind.{common_steps}}
use Rattle.kalah_jobs.specs.{front, front_of}
use Rattle.kalah_jobs.proofs.{CollectingLemmas.{front_more, front_set, front_stops, front_within}, collecting.arrivals.Arrivals.accept.Goals.{then-loop-self-test+else-is_some, else-loop-self-test}}
use Rattle.kalah_jobs.proofs.collecting.arrivals.Arrivals.accept.Goals as goal

pub invariant_of-self : goal.invariant_of-self
invariant_of-self c =
    let stops : front_of c.loop-self.self-inside.arrived.items ≤ c.loop-self.self-inside.front = elim c.loop-self-test.branch [
      | then-loop-self-test+else-is_some w ↦ front_stops _ _ (search rules)
      | else-loop-self-test w ↦ omega (arith, front_within c.loop-self.self-inside.arrived.items, w.loop-self-test.false)
    ] in
    (omega (arith, c.loop-self.invariant.within), search rules, search rules)

pub returns-clause-more_ready : goal.returns-clause-more_ready
returns-clause-more_ready c = omega (arith, (invariant_of-self c).0, c.loop-self.invariant.low, c.self.invariant.0, ap front c.self.view_is)

pub loop-self-init : goal.loop-self-init
loop-self-init c = grind (arith, front_set)

pub overflow_cast-self-inside : goal.overflow_cast-self-inside
overflow_cast-self-inside c = grind (arith, front_within)

pub loop-self-preserved : goal.loop-self-preserved
loop-self-preserved c = grind (arith, common_steps, front_more)
