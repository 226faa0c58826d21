use Rattle.std.proofs.Common.{◌≡◌, length}
use Rattle.kalah_solve.specs.{ArePairs, declared.table.ending_table.TheConstants.{PAIRS}}
use Rattle.kalah_solve.proofs.table.ending_table.pairs.Given as goal

abbrev pub invariant-loop-i : goal.invariant-loop-i
invariant-loop-i l = record {
  cells : length l.pairs ≡ PAIRS;
  right : ArePairs l.i l.pairs;
}
