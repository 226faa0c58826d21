use Rattle.std.proofs.{Common.{w8, SFits, rules}, lemmas.Int.{to_z-of_z}}
use Rattle.kalah_solve.proofs.BoundsLemmas.{in_both}
use Rattle.kalah_solve.proofs.bounds.interval.Interval.intersection.Goals as goal

pub returns : goal.returns
returns c =
    -- `simp` and `search` read that each number fits its width.
    let self_lo : SFits w8 c.args.self.lo = search rules in
    let self_hi : SFits w8 c.args.self.hi = search rules in
    let with_lo : SFits w8 c.args.with.lo = search rules in
    let with_hi : SFits w8 c.args.with.hi = search rules in
    let lo_fits : SFits w8 c.max.result = search rules in
    let hi_fits : SFits w8 c.min.result = search rules in
    simp to_z-of_z (in_both c.args.self c.args.with (simp to_z-of_z at c.max.ensures.value) (simp to_z-of_z at c.min.ensures.value))
