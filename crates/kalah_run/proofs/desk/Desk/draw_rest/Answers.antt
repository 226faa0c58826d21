-- One step moves the desk's number to the end. All numbers that it passes go into this pass's row, so their count is how far it moved.
use Rattle.std.proofs.{Common.{◌≡◌, ◌-◌, ap, arith, rules}, lemmas.Grind.{common_steps}}
use Rattle.kalah_run.specs.{row_in}
use Rattle.kalah_run.proofs.DeskLemmas.{draw_rest_is_lawful, rest_counted}
use Rattle.kalah_run.proofs.desk.Desk.draw_rest.Goals as goal

pub fetch_max-found-requires : goal.fetch_max-found-requires
fetch_max-found-requires c = (
  search rules,
  search rules,
  draw_rest_is_lawful c.self.inside.table.shared.key _ _ _ (search rules) c.pass.inside.seat.me c.pass.invariant.0 (search rules),
)

pub loop-drawn-init : goal.loop-drawn-init
loop-drawn-init c =
    let total = c.args.self.now.total in
    let drawn : c.saturating_sub-drawn.result ≡ total - c.fetch_max-found.result =
    omega (arith, c.saturating_sub-drawn.ensures, ap (λ d. d.total) c.self.view_is) in
    record {
      own = search rules;
      number = search rules;
      counted = rest_counted c.args.pass.now.row c.fetch_max-found.result total {after = row_in c.fetch_max-found.new.seat.me.0}
          (search rules) drawn;
      few = omega arith;
    }

pub loop-drawn-preserved : goal.loop-drawn-preserved
loop-drawn-preserved c = grind (arith, common_steps)
