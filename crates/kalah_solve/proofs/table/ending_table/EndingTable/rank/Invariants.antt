use Rattle.std.proofs.Common.{◌++◌, ◌+◌, ◌-◌, length}
use Rattle.kalah_solve.proofs.RankLemmas.{IsRanked}
use Rattle.kalah_solve.proofs.table.ending_table.EndingTable.rank.Given as goal

abbrev pub invariant-loop-step : goal.invariant-loop-step
invariant-loop-step g l = IsRanked (l.houses.own ++ l.houses.other) (l.step + length l.houses.own - 6) l.sums l.rank
