-- A game's text is that of its next move, and then that of the game from the position after it, from which fewer moves are left.
use Rattle.std.proofs.Common.{◌∙◌, ap}
use Rattle.kalah_solve.proofs.WorthLemmas.{board_equal_sides}
use Rattle.kalah_jobs.proofs.SinkLemmas.{given_then}
use Rattle.kalah_cli.proofs.{GameLemmas.{fewer_left, text_goes_on}, GameSolverLemmas.{reached_after_flush, next_is_reached}}
use Rattle.kalah_cli.proofs.commands.game.write_game.Goals as goal

pub loop-house-smaller : goal.loop-house-smaller
loop-house-smaller g c =
    rw c.board.ensures (fewer_left c.apply-step.result (board_equal_sides c.loop-house.reached c.apply-step.ensures.limits)
    c.in-Some.ensures.some.legal c.apply-step.ensures.step)

pub loop-house-preserved : goal.loop-house-preserved
loop-house-preserved g c =
    let so_far = c.loop-house.invariant in
    let next = c.in-Some.ensures.some in
    let step = c.apply-step.ensures.step in
    let equal = board_equal_sides c.loop-house.reached c.apply-step.ensures.limits in
    let same_game = c.next_move.ensures.begun in
    record {
      same_game = same_game ∙ so_far.same_game;
      begins = tt;
      reached = next_is_reached (reached_after_flush so_far.reached c.next_move.ensures.flushed) same_game next step c.board.ensures
          c.write_in_form.ensures;
      rest = λ new given. so_far.rest new (rw (text_goes_on next step equal (ap (λ game. game.form) same_game) c.board.ensures)
          (given_then _ c.next_move.ensures.flushed (given_then _ c.write_in_form.ensures given)));
    }

pub returns-clause-printed : goal.returns-clause-printed
returns-clause-printed g c =
    let printed = c.in_default.ensures.none in
    record { given = c.loop-house.invariant.rest _ printed.given; all_flushed = printed.all_flushed }
