-- The move of a rank is one of those with values, so it is legal. Its line is its house and value, and the game from the position after it.
use Rattle.std.proofs.{Common.{◌≡◌, ◌∙◌, ℕ, List, Some, ◌==◌, ap, sym, Contains}, lemmas.List.Elements.{All-contains_itself, All-map, recursion_from_All}}
use Rattle.kalah_rules.specs.{Position.{Position}, Play.{legal_houses, position_after}}
use Rattle.kalah_solve.specs.{Solver.MoveValues.{move_value, values_of}, declared.solver.move_values.MoveValue.{MoveValue}}
use Rattle.kalah_cli.{specs.{move_of_rank, rank_in}, proofs.{ClapWalkLemmas.{found_all}, GameSolverLemmas.{variation_is_reached}}}
use Rattle.kalah_jobs.proofs.SinkLemmas.{given_then}
use Rattle.kalah_cli.proofs.commands.show.write_variation.Goals as goal

-- the value is that of a legal move
abbrev IsOfLegal : Position → MoveValue → Type 0
IsOfLegal p v = Contains (legal_houses p) v.house

-- the move of a rank is legal
ranked_is_legal : (p : Position) (values : List MoveValue) (rank : ℕ) (v : MoveValue) → values ≡ values_of p
    → Some v ≡ move_of_rank values rank → IsOfLegal p v
ranked_is_legal p values rank v same ranked =
    let all = recursion_from_All (IsOfLegal p) (values_of p)
    (All-map (IsOfLegal p) (move_value p) (legal_houses p) (All-contains_itself (legal_houses p))) in
    let found : Some v ≡ move_of_rank (values_of p) rank = rw same at ranked in
    rw (← found) at (found_all (IsOfLegal p) (λ w. rank_in (values_of p) w == rank) (values_of p) all)

pub apply-step-requires : goal.apply-step-requires
apply-step-requires g c =
    ranked_is_legal c.args.board.now c.args.values.now c.args.rank c.in-Some.value c.requires.values
    (sym c.in-Some.is ∙ c.move_of_rank.ensures)

pub write_game-requires-clause-reached : goal.write_game-requires-clause-reached
write_game-requires-clause-reached g c =
    variation_is_reached c.in-Some.value c.requires.shown c.write_variation_start.ensures
    (c.board.ensures ∙ ap position_after c.apply-step.ensures.step)

pub returns-clause-line : goal.returns-clause-line
returns-clause-line g c =
    let game = rw c.requires.shown.form at c.write_game.ensures.printed.given in
    let found = sym c.in-Some.is ∙ c.move_of_rank.ensures ∙ ap (λ values. move_of_rank values c.args.rank) c.requires.values in
    rw (← found) (rw (c.board.ensures ∙ ap position_after c.apply-step.ensures.step)
    at (given_then _ c.write_variation_start.ensures (given_then _ game c.write_unless_failed.ensures)))
