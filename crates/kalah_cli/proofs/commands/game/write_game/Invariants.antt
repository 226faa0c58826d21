-- What is written so far, and then the game from the position that is reached, is the text of the whole game.
use Rattle.std.proofs.Common.{◌≡◌, List, ℕ}
use Rattle.kalah_rules.specs.Measure.{moves_left}
use Rattle.kalah_jobs.specs.Writing.Sink.{SinkState, WasGiven}
use Rattle.kalah_cli.specs.{IsReached, MayBegin, begun, game_played, game_text}
use Rattle.kalah_cli.proofs.commands.game.write_game.Given as goal

-- once the rest is given, all is
abbrev pub Completes : {O : Type 0} → (O → SinkState) → O → O → List ℕ → List ℕ → Type 0
Completes {O} state old between rest all = (new : O) → WasGiven state between new rest → WasGiven state old new all

abbrev pub invariant-loop-house : goal.invariant-loop-house
invariant-loop-house g l = record {
  same_game : begun l.solver ≡ begun l.initial.solver;
  begins : MayBegin l.first l.reached;
  reached : IsReached g.O.Sink.state (begun l.solver) l.out l.reached;
  rest : Completes g.O.Sink.state l.initial.out l.out (game_text l.solver.form l.reached (game_played l.first l.reached))
      (game_text l.initial.solver.form l.fn.board (game_played l.fn.first l.fn.board));
}

abbrev pub decreases-loop-house : goal.decreases-loop-house
decreases-loop-house g l = moves_left l.reached
