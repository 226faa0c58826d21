use Rattle.std.proofs.Common.{arith, ◌+◌, ◌*◌}
use Rattle.kalah_rules.proofs.houses.sowing_table.SowingTable.get.Goals as goal

pub returns : goal.returns
returns c =
    c.self.invariant c.args.m c.args.house c.args.count (32 * c.index_in.result + c.args.count) _ (omega arith) (omega arith)
