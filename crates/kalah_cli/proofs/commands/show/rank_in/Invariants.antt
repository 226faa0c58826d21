use Rattle.std.proofs.Common.{◌≡◌, ◌≤◌, count_by, take}
use Rattle.kalah_cli.specs.{is_better}
use Rattle.kalah_cli.proofs.commands.show.rank_in.Given as goal

abbrev pub invariant-loop-i : goal.invariant-loop-i
invariant-loop-i l = record {
  rank : l.rank ≡ count_by (λ w. is_better w l.fn.value) (take l.i l.values);
  few : l.rank ≤ l.i;
}
