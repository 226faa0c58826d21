use Rattle.std.proofs.{Common.{ap, rules, ◌∙◌, w32}, lemmas.Int.{to_z-of_z}}
use Rattle.kalah_solve.{specs.{clamped}, proofs.BoundsLemmas.{margin_of_won_is_worth}}
use Rattle.kalah_solve.proofs.search.Search.clamped_in_variant.Goals as goal

pub returns-then-seeds-self : goal.returns-then-seeds-self
returns-then-seeds-self g c =
    let seeds = c.seeds-seeds.ensures in
    to_z-of_z w32 c.clamp.result (search rules) ∙ rw (to_z-of_z w32 c.margin_of.result (search rules)) at c.clamp.ensures
    ∙ ap (clamped _ _) (margin_of_won_is_worth seeds.limits seeds.seeds c.won-won.ensures c.margin_of.ensures)
