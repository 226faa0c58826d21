-- The rows after the move are the fields of the next houses, as they stand if the mover moves again, and exchanged if the turn passes.
use Rattle.std.proofs.Common.{arith, sym, ◌∙◌, ◌+◌, ◌-◌, ◌*◌, ◌/◌, ◌%◌, ◌^◌}
use Rattle.kalah_rules.specs.{Again, Turn}
use Rattle.kalah_rules.proofs.{KeyLemmas.{fields_of}, StepLemmas.{IsStepOfFields, store_within, store_small, over_own, over_other, again_fields, turn_fields}, houses.Houses.step.Goals.{Then-again, Else-again}}
use Rattle.kalah_rules.proofs.houses.Houses.step.Goals as goal

pub overflow_sub-seeds : goal.overflow_sub-seeds
overflow_sub-seeds c = store_within c.self.invariant c.self.view_is c.requires.legal c.requires.rows

pub overflow_cast-gained : goal.overflow_cast-gained
overflow_cast-gained c = omega (arith, store_small (fields_of c.self.invariant c.self.view_is).limits c.requires.legal c.requires.rows)

pub returns-then-own-eq0 : goal.returns-then-own-eq0
returns-then-own-eq0 c = over_own c.self.invariant c.self.view_is c.requires.legal c.requires.rows c.if-own-eq0.true

pub returns-then-other-eq0 : goal.returns-then-other-eq0
returns-then-other-eq0 c =
    let fields = fields_of c.self.invariant c.self.view_is in
    rw (c.seeds.ensures.seeds, fields.seeds_are) (over_other c.self.invariant c.self.view_is c.requires.legal c.requires.rows
    c.if-other-eq0.true)

-- the step on which the mover moves again
again : (c : Then-again) → IsStepOfFields c.args.self.now c.args.house c.args.rows.rows (c.self.inside.seeds - c.args.rows.store)
    c.self.inside.variant (Again c.args.rows.store)
again c = again_fields c.self.invariant c.self.view_is c.requires.legal c.requires.rows c.if-own-eq0.false c.if-other-eq0.false
    (sym c.requires.again ∙ c.if-again.true)

pub invariant_of-result : goal.invariant_of-result
invariant_of-result c = (again c).fields

pub returns-then-again : goal.returns-then-again
returns-then-again c = (again c).step_is

-- the step by which the turn passes
turn : (c : Else-again) → IsStepOfFields c.args.self.now c.args.house (c.args.rows.rows / 2 ^ 30 + 2 ^ 30 * (c.args.rows.rows % 2 ^ 30))
    (c.self.inside.seeds - c.args.rows.store) c.self.inside.variant (Turn c.args.rows.store)
turn c = turn_fields c.self.invariant c.self.view_is c.requires.legal c.requires.rows c.if-own-eq0.false c.if-other-eq0.false
    (sym c.requires.again ∙ c.if-again.false)

pub invariant_of-result-else-again : goal.invariant_of-result-else-again
invariant_of-result-else-again c = (turn c).fields

pub returns-else-again : goal.returns-else-again
returns-else-again c = (turn c).step_is
