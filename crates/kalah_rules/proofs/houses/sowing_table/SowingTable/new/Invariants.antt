use Rattle.std.proofs.Common.{◌≡◌, length}
use Rattle.kalah_rules.specs.{AreSowings, declared.houses.sowing_table.TheConstants.{CELLS}}
use Rattle.kalah_rules.proofs.houses.sowing_table.SowingTable.new.Given as goal

abbrev pub invariant-loop-i : goal.invariant-loop-i
invariant-loop-i l = record {
  all : length l.cells ≡ CELLS;
  right : AreSowings l.i l.cells;
}
