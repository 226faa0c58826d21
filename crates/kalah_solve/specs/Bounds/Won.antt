-- How many of the seeds in houses a player ends up with.
use Rattle.std.specs.Prelude.{ℕ, ◌+◌, ◌-◌, ◌/◌, ◌≤◌, ℤ, pos, negsuc, ◌+ℤ◌}
use Rattle.kalah_rules.specs.{Position.{HousesState, total_seeds}, declared.step.HousesStep.{HousesStep, TheVariants.{Over, Again, Turn}}}
use Rattle.kalah_solve.specs.{Solver.Worth.{houses_worth}, declared.bounds.seed_bounds.SeedBounds.{SeedBounds}}

-- an integer as a natural number, 0 if below 0
abbrev pub nat_or_zero : ℤ → ℕ
nat_or_zero (pos n) = n
nat_or_zero (negsuc n) = 0

-- the seeds in the houses that the mover wins in best play: the houses are worth these less the others
unfoldable pub won : HousesState → ℕ
won a = nat_or_zero (houses_worth a +ℤ pos (total_seeds a)) / 2

-- what the mover wins by a step, if best play follows; after a turn it is what the opponent leaves
abbrev pub won_by_step : HousesStep → ℕ
won_by_step (Over own other) = own
won_by_step (Again gained b) = gained + won b
won_by_step (Turn gained b) = gained + (total_seeds b - won b)

-- the number is within the bounds
pub record IsWithinBounds (s : SeedBounds) (t : ℕ) : Type 0 where
  pub least : s.least ≤ t
  pub most : t ≤ s.most
