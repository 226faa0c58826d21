-- By what the move leads to: the final margin, the worth of the next position, or the opponent's with its sign changed.
use Rattle.std.proofs.{Common.{arith, rules, ◌∙◌, ap, ◌≡◌, to_z, of_z, pos, neg_ℤ, ◌-ℤ◌, w32}, lemmas.Int.{ints, to_z-of_z}}
use Rattle.kalah_solve.proofs.WorthLemmas.{over_ends, value_of_over, value_of_again, value_of_turn}
use Rattle.kalah_solve.proofs.solver.Solver.value_of_move.Goals as goal

pub returns-requires : goal.returns-requires
returns-requires g c = over_ends _ _ _ c.in-Over.ensures.step

pub returns-in-Over-clause-value : goal.returns-in-Over-clause-value
returns-in-Over-clause-value g c =
    to_z-of_z w32 c.returns.result (search rules) ∙ c.returns.ensures.margin ∙ value_of_over _ _ _ c.in-Over.ensures.step

pub returns-in-Turn-clause-value : goal.returns-in-Turn-clause-value
returns-in-Turn-clause-value g c =
    let turned : to_z w32 (of_z w32 (pos 0 -ℤ to_z w32 (of_z w32 c.worth-in-Turn.result))) ≡ neg_ℤ c.worth-in-Turn.result =
    omega (arith, ints, c.worth-in-Turn.ensures.small) in
    turned ∙ ap neg_ℤ c.worth-in-Turn.ensures.worth ∙ value_of_turn _ _ _ c.in-Turn.ensures.step

pub returns-in-Again-clause-value : goal.returns-in-Again-clause-value
returns-in-Again-clause-value g c =
    to_z-of_z w32 c.worth.result (search rules) ∙ c.worth.ensures.worth ∙ value_of_again _ _ _ c.in-Again.ensures.step
