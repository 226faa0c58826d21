use Rattle.std.proofs.Common.{arith, ◌≡◌, ◌-◌, ◌*◌, ◌^◌}
use Rattle.kalah_rules.proofs.KeyLemmas.{placed_small}
use Rattle.kalah_rules.proofs.houses.sowing_table.last_cell.Goals as goal

pub overflow_mul-result : goal.overflow_mul-result
overflow_mul-result c =
    let seed : c.row_with-seed.result ≡ 32 ^ (c.args.place - 1) * 1 = rw c.new.ensures at c.row_with-seed.ensures in
    omega (arith, placed_small (c.args.place - 1) 1 (omega arith) (omega arith))
