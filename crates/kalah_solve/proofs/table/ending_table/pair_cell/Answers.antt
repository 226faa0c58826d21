use Rattle.kalah_solve.proofs.RankLemmas.{binomial_small}
use Rattle.std.proofs.Common.{arith}
use Rattle.kalah_solve.proofs.table.ending_table.pair_cell.Goals as goal

pub overflow_add-result-4 : goal.overflow_add-result-4
overflow_add-result-4 c = grind (arith, binomial_small)
