use Rattle.std.proofs.{Common.{rules, ◌∙◌, w32}, lemmas.Int.{to_z-of_z}}
use Rattle.kalah_solve.proofs.SolverLemmas.{whole_window}
use Rattle.kalah_solve.proofs.solver.Solver.houses_worth.Goals as goal

pub returns : goal.returns
returns g c =
    to_z-of_z w32 c.clamped_worth.result (search rules) ∙ whole_window c.requires.limits
    c.whole.ensures.lo c.whole.ensures.hi c.clamped_worth.ensures
