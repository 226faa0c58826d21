-- A margin and all seeds add up to twice what is won, so both ends of the window become numbers of seeds by halves.
use Rattle.std.proofs.{Common.{arith, pos, ◌+ℤ◌, w32}, lemmas.Int.{ints, to_z-of_z}}
use Rattle.kalah_solve.{specs.{IsHalf}, proofs.BoundsLemmas.{bounds_ordered, bounds_high, bounds_apart}}
use Rattle.kalah_solve.proofs.bounds.seed_bounds.SeedBounds.of_window.Goals as goal

module _ (c : goal.After-won_of-2) where
  -- the least is half of the lower end and all seeds
  low_half : IsHalf (c.args.window.lo +ℤ pos c.args.seeds) c.won_of.result
  low_half = rw (to_z-of_z w32 c.args.window.lo (omega (arith, ints))) at c.won_of.ensures

  -- the most is half of one more than the upper end and all seeds
  high_half : IsHalf (c.args.window.hi +ℤ pos 1 +ℤ pos c.args.seeds) c.won_of-2.result
  high_half =
      rw (to_z-of_z w32 c.args.window.hi (omega (arith, ints)), to_z-of_z w32 (c.args.window.hi +ℤ pos 1) (omega (arith, ints)))
      at c.won_of-2.ensures

pub returns-clause-ordered : goal.returns-clause-ordered
returns-clause-ordered c = bounds_ordered c.args.window c.args.seeds _ _ (low_half c.before) (high_half c.before)

pub invariant_of-result : goal.invariant_of-result
invariant_of-result c = record { few = bounds_high c.args.window c.args.seeds _ _ (low_half c) (high_half c) c.requires }

pub returns-clause-apart : goal.returns-clause-apart
returns-clause-apart c = bounds_apart c.args.window c.args.seeds _ _ (low_half c.before) (high_half c.before)
