use Rattle.kalah_cli.proofs.EndsLemmas.{printed_flushed}
use Rattle.kalah_cli.proofs.commands.show.draw_and_flush.Goals as goal

pub returns : goal.returns
returns g c = printed_flushed c.write_picture.ensures c.flush_unless_failed.ensures.given c.flush_unless_failed.ensures.all_flushed
