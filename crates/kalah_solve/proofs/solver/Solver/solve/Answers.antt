-- The worth of the houses gives what best play wins, by which `best_house` finds the house, and with the stores the margin.
use Rattle.std.proofs.{Common.{arith, rules, sym, ap, ◌∙◌, ◌≡◌, w32}, lemmas.Int.{ints, to_z-of_z}}
use Rattle.kalah_rules.{specs.Position.{HousesState, storeless}, proofs.{PlayLemmas.{legal_holds}, StepLemmas.{houses_within}}}
use Rattle.kalah_solve.specs.{best_house, houses_worth, declared.solver.Verdict.TheVariants.{Over}}
use Rattle.kalah_solve.proofs.{SolverLemmas.{verdict_of_going, verdict_of_over, verdict_states}, WorthLemmas.{best_of_houses, best_found, board_equal_sides}, BoundsLemmas.{worth_low, worth_high, half_is_won}}
use Rattle.kalah_solve.proofs.solver.Solver.solve.Given as given
use Rattle.kalah_solve.proofs.solver.Solver.solve.Goals as goal

pub returns-then-is_over-clause-best_play : goal.returns-then-is_over-clause-best_play
returns-then-is_over-clause-best_play g c =
    rw (to_z-of_z w32 c.returns.result (search rules))
    (verdict_states c.args.board.now (Over c.returns.result) (board_equal_sides c.args.board.now c.is_over.ensures.limits)
    (verdict_of_over c.args.board.now c.returns.result (sym c.if-is_over.ensures.over) c.returns.ensures.margin))

-- ---- the game goes on
pub houses_worth-worth-requires-clause-limits : goal.houses_worth-worth-requires-clause-limits
houses_worth-worth-requires-clause-limits g c = rw c.houses-houses.ensures (houses_within c.is_over.ensures.limits)

pub won_of-beta-requires : goal.won_of-beta-requires
won_of-beta-requires g c =
    let limits = c.seeds.ensures.limits in
    omega (arith, ints, worth_low limits, worth_high limits)

pub best_house-house-requires-clause-beta : goal.best_house-house-requires-clause-beta
best_house-house-requires-clause-beta g c =
    half_is_won c.seeds.ensures.limits c.houses_worth-worth.ensures
    (rw (c.seeds.ensures.seeds, to_z-of_z w32 c.houses_worth-worth.result (search rules)) at c.won_of-beta.ensures)

pub worth_of_board-margin-requires-clause-houses : goal.worth_of_board-margin-requires-clause-houses
worth_of_board-margin-requires-clause-houses g c =
    to_z-of_z w32 c.houses_worth-worth.result (search rules) ∙ c.houses_worth-worth.ensures ∙ ap houses_worth c.houses-houses.ensures

-- the house is the best one
house_is : (g : given.Over) (c : goal.After-worth_of_board-margin g) → c.best_house-house.result ≡ best_house c.args.board.now
house_is g c = c.best_house-house.ensures ∙ ap (λ (a : HousesState). best_house (storeless a)) c.houses-houses.ensures
    ∙ sym (best_of_houses c.args.board.now)

pub returns-clause-verdict : goal.returns-clause-verdict
returns-clause-verdict g c =
    rw (to_z-of_z w32 c.worth_of_board-margin.result (search rules))
    (verdict_of_going _ _ _ (sym c.if-is_over.ensures.over) c.worth_of_board-margin.ensures.worth (house_is g c))

pub returns-clause-best_play : goal.returns-clause-best_play
returns-clause-best_play g c =
    verdict_states c.args.board.now _ (board_equal_sides c.args.board.now c.is_over.ensures.limits) (returns-clause-verdict g c)

pub returns-clause-small : goal.returns-clause-small
returns-clause-small g c =
    let p = c.args.board.now in
    let limits = c.is_over.ensures.limits in
    let found = (best_found (board_equal_sides p limits) (sym c.if-is_over.ensures.over)).0 in
    let holds = legal_holds p {h = c.best_house-house.result} (rw (house_is g c) found) in
    rw (to_z-of_z w32 c.worth_of_board-margin.result (search rules))
    (record { small = c.worth_of_board-margin.ensures.small; first = holds.first; last = omega arith })
