use Rattle.std.proofs.Common.{ap}
use Rattle.kalah_jobs.{specs.Writing.Counts.{total_line}, proofs.SinkLemmas.{given_then_if_sound}}
use Rattle.kalah_cli.proofs.EndsLemmas.{printed_flushed}
use Rattle.kalah_cli.proofs.commands.count.write_count.Goals as goal

pub returns : goal.returns
returns g c =
    let lines = given_then_if_sound _ _ _ _ _ _ _ c.write_ways_by_house-total.ensures.given
    (λ sound. ap total_line (c.write_ways_by_house-total.ensures.total sound)) c.write_total.ensures in
    printed_flushed lines c.flush_unless_failed.ensures.given c.flush_unless_failed.ensures.all_flushed
