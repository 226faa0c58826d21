-- Both bounds are half of an end of the interval and all seeds, so they enclose what is won just as the interval encloses its margin.
use Rattle.std.proofs.{Common.{arith, pos, ◌+ℤ◌, w8, w32, SFits, rules}, lemmas.Int.{ints, to_z-of_z}}
use Rattle.kalah_solve.{specs.{IsHalf}, proofs.BoundsLemmas.{bounds_held, bounds_exact}}
use Rattle.kalah_solve.proofs.bounds.seed_bounds.SeedBounds.of_margins.Goals as goal

module _ (c : goal.After-result-1) where
  -- the least is half of one more than the lower end and all seeds
  least_half : IsHalf (c.args.interval.lo +ℤ pos 1 +ℤ pos c.args.seeds) c.won_of.result
  least_half =
      let fits : SFits w8 c.args.interval.lo = search rules in
      simp (
        to_z-of_z w8 _ fits,
        to_z-of_z w32 c.args.interval.lo (search (rules, fits)),
        to_z-of_z w32 (c.args.interval.lo +ℤ pos 1) (omega (arith, ints, fits)),
      ) at c.won_of.ensures

  -- the most, without the limit, is half of the upper end and all seeds
  most_half : IsHalf (c.args.interval.hi +ℤ pos c.args.seeds) c.won_of-2.result
  most_half =
      let fits : SFits w8 c.args.interval.hi = search rules in
      simp (to_z-of_z w8 _ fits, to_z-of_z w32 c.args.interval.hi (search (rules, fits))) at c.won_of-2.ensures

pub returns-clause-held : goal.returns-clause-held
returns-clause-held c = λ t few h.
    let both = bounds_held c.args.interval c.args.seeds _ _ c.requires (least_half c) (most_half c) t few h in
    record { least = both.0; most = rw c.min.ensures both.1 }

pub returns-clause-only : goal.returns-clause-only
returns-clause-only c = λ some t few h.
    bounds_exact c.args.interval c.args.seeds _ _ c.requires (least_half c) (most_half c) some t few h.least (rw c.min.ensures at h.most)
