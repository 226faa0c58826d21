use Rattle.std.proofs.Common.{◌≡◌, ◌≤◌, ◌<◌, ℕ, get_or, sum, take}
use Rattle.kalah_rules.proofs.houses.house_row.HouseRow.of_cells.Given as goal

abbrev pub invariant-loop-i : goal.invariant-loop-i
invariant-loop-i l = record {
  houses : l.row ≡ take l.i l.cells;
  few : sum (take l.i l.cells) ≤ 31;
}

abbrev pub invariant-loop-i-2 : goal.invariant-loop-i-2
invariant-loop-i-2 l = (k : ℕ) → l.m ≤ k → k < l.i → get_or l.cells k 0 ≡ 0
