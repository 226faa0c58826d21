use Rattle.kalah_cli.proofs.EndsLemmas.{printed_flushed}
use Rattle.kalah_cli.proofs.run.print_text.Goals as goal

pub returns : goal.returns
returns g c = printed_flushed
    (rw c.as_bytes.ensures.value at c.write_unless_failed.ensures)
    c.flush_unless_failed.ensures.given c.flush_unless_failed.ensures.all_flushed
