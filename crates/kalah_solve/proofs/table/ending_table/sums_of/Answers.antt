-- The other row stands m cells above the own one. What the sums are follows from the joined rows (`sums_are`). They are small, so
-- nothing overflows.
use Rattle.std.proofs.{Common.{arith, ◌+◌, ◌*◌, ◌%◌, ◌^◌, ◌++◌, length-append, ℕ}, lemmas.List.Sums.{sum_by-append}}
use Rattle.kalah_solve.proofs.RankLemmas.{AreSums, both_rows, sums_are}
use Rattle.kalah_solve.proofs.table.ending_table.sums_of.Goals as goal

module _ (c : goal.After-m) where
  -- the joined rows
  abbrev row : ℕ
  row = c.own_row.result + c.other_row.result * 2 ^ (5 * c.m.result) % 2 ^ 64

  -- their sums
  are : AreSums (c.args.houses.now.own ++ c.args.houses.now.other) row c.seeds-seeds.result
  are =
      let a = c.args.houses.now in
      let seeds = c.seeds-seeds.ensures in
      let joined = both_rows c.m.ensures.limits c.own_row.ensures.value c.other_row.ensures.value c.own_row.ensures.small
      c.other_row.ensures.small c.m.ensures.side in
      sums_are (a.own ++ a.other) row c.seeds-seeds.result (omega (arith, length-append a.own a.other)) joined.0
      (omega (arith, sum_by-append (λ x. x) a.own a.other)) joined.1

pub overflow_sub-result : goal.overflow_sub-result
overflow_sub-result c = (are c).few

pub returns-clause-sums : goal.returns-clause-sums
returns-clause-sums c = (are c).sums

pub overflow_mul-result : goal.overflow_mul-result
overflow_mul-result c = omega (arith, (are c).small)

pub overflow_add-result : goal.overflow_add-result
overflow_add-result c = omega (arith, (are c).small)
