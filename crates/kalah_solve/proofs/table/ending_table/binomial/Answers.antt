use Rattle.std.proofs.Common.{arith, sym}
use Rattle.kalah_solve.proofs.RankLemmas.{binomial_small, choose_none}
use Rattle.kalah_solve.proofs.table.ending_table.binomial.Goals as goal

pub returns-then-i-eq0 : goal.returns-then-i-eq0
returns-then-i-eq0 c = sym (choose_none _ _ (omega arith))

pub overflow_add-result : goal.overflow_add-result
overflow_add-result c = grind (arith, binomial_small)
