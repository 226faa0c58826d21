use Rattle.std.proofs.Common.{◌≡◌, length}
use Rattle.kalah_solve.specs.{AreBinomials, declared.table.ending_table.TheConstants.{BINOMIALS}}
use Rattle.kalah_solve.proofs.table.ending_table.binomials.Given as goal

abbrev pub invariant-loop-i : goal.invariant-loop-i
invariant-loop-i l = record {
  cells : length l.binomials ≡ BINOMIALS;
  right : AreBinomials l.i l.binomials;
}
