use Rattle.std.proofs.Common.{ap}
use Rattle.kalah_jobs.proofs.SinkLemmas.{given_then}
use Rattle.kalah_cli.proofs.GameSolverLemmas.{first_is_reached}
use Rattle.kalah_cli.proofs.commands.play.run_play.Goals as goal

pub write_game-requires-clause-reached : goal.write_game-requires-clause-reached
write_game-requires-clause-reached g c = first_is_reached c.in-Ok.ensures.begun c.write_board.ensures

pub returns-clause-printed : goal.returns-clause-printed
returns-clause-printed g c =
    let game = rw (ap (λ game. game.form) c.in-Ok.ensures.begun) at c.write_game.ensures.printed.given in
    record { given = given_then _ c.write_board.ensures game; all_flushed = c.write_game.ensures.printed.all_flushed }
