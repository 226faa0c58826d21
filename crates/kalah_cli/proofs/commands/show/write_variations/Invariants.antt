use Rattle.std.{proofs.Common.{flat_map, length, take}, specs.List.{range_with_len}}
use Rattle.kalah_solve.specs.Solver.MoveValues.{values_of}
use Rattle.kalah_jobs.specs.Writing.Sink.{WasGiven}
use Rattle.kalah_cli.specs.{ranked_line, ShowsValues, begun}
use Rattle.kalah_cli.proofs.commands.show.write_variations.Given as goal

abbrev pub invariant-loop-rank : goal.invariant-loop-rank
invariant-loop-rank g l = record {
  shown : ShowsValues g.O.Sink.state (begun l.solver) l.board l.out;
  given : WasGiven g.O.Sink.state l.initial.out l.out
      (flat_map (ranked_line l.board) (take l.rank (range_with_len 0 (length (values_of l.board)))));
}
