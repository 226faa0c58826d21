use Rattle.std.proofs.Common.{◌≡◌, ◌≤◌, ◌*◌, ◌^◌, ◌-◌, flat_map, take, sum_by}
use Rattle.kalah_rules.specs.{Play.{legal_houses}, Ways.{ways_by}}
use Rattle.kalah_jobs.specs.Writing.Sink.{WasGiven}
use Rattle.kalah_cli.specs.{house_line}
use Rattle.kalah_cli.proofs.commands.count.write_ways_by_house.Given as goal

abbrev pub invariant-loop-i : goal.invariant-loop-i
invariant-loop-i g l = record {
  same : l.moves ≡ legal_houses l.board;
  sum : l.total ≡ sum_by (ways_by (l.depth - 1) l.board) (take l.i l.moves);
  few : l.total ≤ l.i * 6 ^ 19;
  given : WasGiven g.O.Sink.state l.initial.out l.out (flat_map (house_line (l.depth - 1) l.board) (take l.i l.moves));
}
