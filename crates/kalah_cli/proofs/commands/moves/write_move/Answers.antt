use Rattle.std.proofs.Common.{append_assoc}
use Rattle.kalah_jobs.proofs.SinkLemmas.{given_then}
use Rattle.kalah_cli.proofs.commands.moves.write_move.Goals as goal

pub returns : goal.returns
returns g c = simp (append_assoc, c.board.ensures) at (given_then _ c.write_step.ensures c.write_board.ensures)
