-- The sown rows without what is captured show the houses after the move (`move_leaves`), and no subtraction falls below 0.
use Rattle.std.proofs.Common.{arith, ◌/◌, ◌%◌, ◌^◌}
use Rattle.kalah_rules.proofs.{KeyLemmas.{fields_of}, PackedLemmas.{rows_sown, move_leaves, across_within, captured_fits}}
use Rattle.kalah_rules.proofs.houses.Houses.after.Goals as goal

pub overflow_shr-across : goal.overflow_shr-across
overflow_shr-across c =
    across_within c.args.house _ c.args.sowing c.requires.sowing (fields_of c.self.invariant c.self.view_is).limits.at_most_six

pub overflow_add-at_stake : goal.overflow_add-at_stake
overflow_add-at_stake c = omega (
  arith,
  captured_fits c.args.house _ ((rows_sown c.self.inside.rows c.args.sowing).rows / 2 ^ c.args.sowing.across_bit % 32) c.args.sowing
      c.requires.sowing (fields_of c.self.invariant c.self.view_is).limits.at_most_six (omega arith),
)

pub overflow_sub-result : goal.overflow_sub-result
overflow_sub-result c = (move_leaves (fields_of c.self.invariant c.self.view_is) c.requires.holds c.requires.sowing (omega arith)
    c.rule.ensures c.captured_seeds-captured.ensures.captured).within

pub returns : goal.returns
returns c = (move_leaves (fields_of c.self.invariant c.self.view_is) c.requires.holds c.requires.sowing (omega arith) c.rule.ensures
    c.captured_seeds-captured.ensures.captured).shows
