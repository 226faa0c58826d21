use Rattle.std.proofs.Common.{◌≡◌, None, flat_map, take}
use Rattle.kalah_rules.specs.Play.{legal_houses, step_of}
use Rattle.kalah_jobs.specs.Writing.Sink.{WasGiven}
use Rattle.kalah_cli.specs.{move_lines}
use Rattle.kalah_cli.proofs.commands.moves.write_moves.Given as goal

abbrev pub invariant-loop-i : goal.invariant-loop-i
invariant-loop-i g l = record {
  same : l.moves ≡ legal_houses l.board;
  given : WasGiven g.O.Sink.state l.initial.out l.out
      (flat_map (λ h. move_lines l.fn.boards None h (step_of l.board h)) (take l.i l.moves));
}
