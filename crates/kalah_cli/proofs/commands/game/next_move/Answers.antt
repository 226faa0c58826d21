-- A flush gives nothing, so the position is still reached and may be solved. The verdict has the next move, or no move is left.
use Rattle.std.proofs.Common.{◌∙◌, sym}
use Rattle.kalah_jobs.proofs.SinkLemmas.{given_more_after_failure}
use Rattle.kalah_cli.proofs.{GameLemmas.{next_of_verdict, no_text}, GameSolverLemmas.{reached_after_flush}}
use Rattle.kalah_cli.proofs.commands.game.next_move.Goals as goal

pub solve-requires-clause-reached : goal.solve-requires-clause-reached
solve-requires-clause-reached g c = reached_after_flush c.requires.reached c.flush_unless_failed.ensures.given

pub returns-then-failed-clause-none : goal.returns-then-failed-clause-none
returns-then-failed-clause-none g c = record {
  given = given_more_after_failure _ _ c.flush_unless_failed.ensures.given (sym c.failed.ensures ∙ c.if-failed.true);
  all_flushed = c.flush_unless_failed.ensures.all_flushed;
}

pub returns-in-Over-clause-none : goal.returns-in-Over-clause-none
returns-in-Over-clause-none g c = record {
  given = rw (no_text _ c.args.first c.args.board.now c.requires.begins c.in-Over.ensures.best_play.over)
      c.flush_unless_failed.ensures.given;
  all_flushed = c.flush_unless_failed.ensures.all_flushed;
}

pub returns-in-Best-clause-some : goal.returns-in-Best-clause-some
returns-in-Best-clause-some g c = rw (c.unwrap_or.ensures, c.printed_value.ensures)
    (next_of_verdict _ c.args.first c.args.board.now c.requires.begins
    c.in-Best.ensures.small c.in-Best.ensures.best_play c.in-Best.ensures.verdict)
