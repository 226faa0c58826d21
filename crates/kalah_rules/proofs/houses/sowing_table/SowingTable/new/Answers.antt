-- After i cells each of them has the sowing that its number names.
use Rattle.std.proofs.Common.{arith, ◌∙◌, length-set}
use Rattle.kalah_rules.proofs.PackedLemmas.{sowings_more}
use Rattle.kalah_rules.proofs.houses.sowing_table.SowingTable.new.Goals as goal

pub loop-i-preserved : goal.loop-i-preserved
loop-i-preserved c =
    let before = c.loop-i.invariant in
    record {
      all = length-set c.loop-i.cells c.loop-i.i c.sowing_at.result ∙ before.all;
      right = sowings_more _ _ _ (omega arith) before.right c.sowing_at.ensures;
    }

pub invariant_of-result : goal.invariant_of-result
invariant_of-result c = λ m h count k d cell below. c.loop-i.invariant.right m h count k d cell (omega arith)
