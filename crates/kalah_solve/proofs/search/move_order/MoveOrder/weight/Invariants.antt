use Rattle.std.proofs.Common.{◌≤◌, ◌*◌}
use Rattle.kalah_solve.proofs.search.move_order.MoveOrder.weight.Given as goal

abbrev pub invariant-loop-i : goal.invariant-loop-i
invariant-loop-i l = l.weight ≤ 255 * l.i
