use Rattle.kalah_jobs.{proofs.SinkLemmas.{given_then}}
use Rattle.kalah_jobs.proofs.writing.named_text.write_apart.Goals as goal

pub returns : goal.returns
returns g c =
    rw c.as_bytes.ensures.value at (given_then _ c.write_unless_failed.ensures c.write_to.ensures)
