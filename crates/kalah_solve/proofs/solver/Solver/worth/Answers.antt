use Rattle.std.proofs.{Common.{rules, sym, ap, ◌∙◌, w32}, lemmas.Int.{to_z-of_z}}
use Rattle.kalah_rules.proofs.StepLemmas.{houses_within}
use Rattle.kalah_solve.{specs.{houses_worth}, proofs.WorthLemmas.{worth_of_over}}
use Rattle.kalah_solve.proofs.solver.Solver.worth.Goals as goal

pub returns-then-is_over-clause-worth : goal.returns-then-is_over-clause-worth
returns-then-is_over-clause-worth g c =
    to_z-of_z w32 c.returns.result (search rules) ∙ c.returns.ensures.margin ∙ sym (worth_of_over _ (sym c.if-is_over.ensures.over))

pub houses_worth-worth-requires-clause-limits : goal.houses_worth-worth-requires-clause-limits
houses_worth-worth-requires-clause-limits g c = rw c.houses.ensures (houses_within c.is_over.ensures.limits)

pub worth_of_board-requires-clause-houses : goal.worth_of_board-requires-clause-houses
worth_of_board-requires-clause-houses g c =
    to_z-of_z w32 c.houses_worth-worth.result (search rules) ∙ c.houses_worth-worth.ensures ∙ ap houses_worth c.houses.ensures
