use Rattle.std.proofs.Common.{rules}
use Rattle.kalah_run.proofs.DeskLemmas.{draw_is_lawful}
use Rattle.kalah_run.proofs.desk.Desk.draw.Goals as goal

pub fetch_add-found-requires : goal.fetch_add-found-requires
fetch_add-found-requires c =
    (search rules, search rules, draw_is_lawful c.self.inside.table.shared.key _ _ c.pass.inside.seat.me c.pass.invariant.0 (search rules))
