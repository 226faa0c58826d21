-- Each round hands out the pass of the next number, with an empty row, and the opener has one pass less left to hand out.
use Rattle.std.proofs.Common.{◌∙◌, ◌+◌, [], rules, ap, arith, subst, sym}
use Rattle.kalah_run.proofs.{DeskLemmas.{hand_out_is_lawful}, PassLemmas.{draw_pass_more}}
use Rattle.kalah_run.specs.{DeskState, AreNewPasses, number_in, row_in, total_in, Desk.Protocol.{after_handing_out, pass_handed_out}, declared.desk.protocol.DeskView.TheVariants.{Opening}}
use Rattle.kalah_run.proofs.desk.Desk.open.Goals as goal

pub loop-preserved : goal.loop-preserved
loop-preserved c =
    let so_far = c.loop.invariant in
    let seats = c.split_seat-seat.ensures in
    let desk : DeskState = record {
      id = c.in_ok-table.table.shared.table_id;
      total = c.in_ok-table.table.shared.key.total;
      passes = c.args.passes;
    } in
    let id = seats.3 ∙ so_far.table in
    let me = seats.4 ∙ ap (λ m. (pass_handed_out m.0, [])) so_far.opener in
    record {
      table = seats.0 ∙ so_far.table;
      opener = seats.2 ∙ ap (λ m. (after_handing_out m.0, m.1)) so_far.opener
          ∙ ap (λ n. (Opening c.in_ok-table.table.shared.key.total (c.loop.counter + 1) n, [])) (omega arith);
      room = search rules;
      handed_out = subst (AreNewPasses desk (c.loop.counter + 1)) (sym c.push_reserved.ensures.items)
          (draw_pass_more desk _ _ _ so_far.handed_out (λ i. let v = (me i).0 in record {
            desk = id i;
            total = total_in v;
            number = number_in v;
            row = row_in v;
          }));
    }

pub split_seat-seat-requires : goal.split_seat-seat-requires
split_seat-seat-requires c = (search rules, search rules, hand_out_is_lawful _ (ap (λ m. m.0) c.loop.invariant.opener) (omega arith))
