use Rattle.std.proofs.Common.{◌∙◌, ap, arith}
use Rattle.kalah_rules.specs.Position.{seeds, side_length}
use Rattle.kalah_jobs.{specs.{seeds_in, houses_of}, proofs.TextLemmas.{columns_before}}
use Rattle.kalah_jobs.proofs.writing.picture.prepend_houses.Goals as goal

pub loop-column-preserved : goal.loop-column-preserved
loop-column-preserved c =
    let so_far = c.loop-column.invariant in
    record {
      within = omega (arith, so_far.within);
      houses = columns_before (seeds_in c.args.player c.args.board.now) (side_length c.args.board.now) c.loop-column.column
          c.args.text.now (c.seeds.ensures ∙ ap (seeds (houses_of c.args.player c.args.board.now)) c.house_in.ensures.house)
          c.loop-column-test.true so_far.within so_far.houses c.prepend_column.ensures.column;
      longer = omega (arith, so_far.longer, c.prepend_column.ensures.longer, c.loop-column-test.true);
    }
