use Rattle.std.proofs.Common.{◌≡◌, ◌≤◌, count_by, int_lt, pos, take}
use Rattle.kalah_cli.proofs.tests.calling.losing_moves.Given as goal

abbrev pub invariant-loop-i : goal.invariant-loop-i
invariant-loop-i l = record {
  count : l.count ≡ count_by (λ v. int_lt v.value (pos 0)) (take l.i l.values);
  few : l.count ≤ l.i;
}
