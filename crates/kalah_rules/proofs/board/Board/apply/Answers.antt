-- The step of the houses, with the stores of the board added, is the board's step (`stepped`), whichever of the three it is.
use Rattle.std.proofs.Common.{◌≡◌, arith}
use Rattle.kalah_rules.specs.{with_stores, HousesStep.{HousesStep}}
use Rattle.kalah_rules.proofs.{StepLemmas.{IsStepOf, step_of_board}, board.Board.apply.Goals.{After-play}}
use Rattle.kalah_rules.proofs.board.Board.apply.Goals as goal

-- the step of the houses is the board's
stepped : (c : After-play) {s : HousesStep} → c.play.result ≡ s
    → IsStepOf (with_stores c.self.inside.houses c.self.inside.own_store c.self.inside.other_store) c.args.h s
stepped c result_is = step_of_board c.self.invariant c.self.view_is c.requires result_is c.play.ensures.step

pub overflow_add-result : goal.overflow_add-result
overflow_add-result c = omega (arith, (stepped c.before.before c.in-Over.is).within.own_store_few)

pub overflow_add-result-in-Over : goal.overflow_add-result-in-Over
overflow_add-result-in-Over c = omega (arith, (stepped c.before.before c.in-Over.is).within.other_store_few)

pub invariant_of-result : goal.invariant_of-result
invariant_of-result c = rw c.without_seeds.ensures (stepped c.before.before c.in-Over.is).within

pub returns-in-Over : goal.returns-in-Over
returns-in-Over c =
    let step = stepped c.before.before c.in-Over.is in
    rw (← c.self.view_is, c.without_seeds.ensures) (record { step = step.same; nearer_end = step.nearer; limits = c.self.invariant })

pub overflow_add-result-in-Again : goal.overflow_add-result-in-Again
overflow_add-result-in-Again c = omega (arith, (stepped c.before c.in-Again.is).within.own_store_few)

pub invariant_of-result-in-Again : goal.invariant_of-result-in-Again
invariant_of-result-in-Again c = (stepped c.before c.in-Again.is).within

pub returns-in-Again : goal.returns-in-Again
returns-in-Again c =
    let step = stepped c.before c.in-Again.is in
    rw (← c.self.view_is) (record { step = step.same; nearer_end = step.nearer; limits = c.self.invariant })

pub overflow_add-result-in-Turn : goal.overflow_add-result-in-Turn
overflow_add-result-in-Turn c = omega (arith, (stepped c.before c.in-Turn.is).within.other_store_few)

pub invariant_of-result-in-Turn : goal.invariant_of-result-in-Turn
invariant_of-result-in-Turn c = (stepped c.before c.in-Turn.is).within

pub returns-in-Turn : goal.returns-in-Turn
returns-in-Turn c =
    let step = stepped c.before c.in-Turn.is in
    rw (← c.self.view_is) (record { step = step.same; nearer_end = step.nearer; limits = c.self.invariant })
