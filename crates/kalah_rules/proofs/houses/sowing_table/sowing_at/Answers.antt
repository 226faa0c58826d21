-- The number of a cell names houses a side, house and seeds: sides of 6 have each fifth group of cells.
use Rattle.std.proofs.Common.{arith, ◌≡◌, ◌≤◌, ◌+◌, ◌-◌, ◌*◌, ◌/◌, ◌%◌}
use Rattle.kalah_rules.proofs.houses.sowing_table.sowing_at.Goals as goal
use Rattle.kalah_rules.proofs.houses.sowing_table.sowing_at.Goals.{else-group-gt0-via-then-group-gt0+else-group-eq0, else-group-gt0-via-else-group-gt0}

pub returns-then-group-eq0 : goal.returns-then-group-eq0
returns-then-group-eq0 c = λ m h count cell.
    let group : c.args.i / 32 ≡ m + 5 * (h - 1) - 1 = omega arith in
    let side : m ≡ 6 = omega arith in
    let house : h ≡ c.args.i / 32 / 5 = omega arith in
    let seeds : count ≡ c.args.i % 32 = omega arith in
    rw (side, house, seeds) c.new.ensures

pub returns : goal.returns
returns c = λ m h count cell.
    let group : c.args.i / 32 ≡ m + 5 * (h - 1) - 1 = omega arith in
    let few : m ≤ 5 = elim c.else-group-gt0.branch [
      | else-group-gt0-via-then-group-gt0+else-group-eq0 w ↦ omega arith
      | else-group-gt0-via-else-group-gt0 w ↦ omega arith
    ] in
    let side : m ≡ c.args.i / 32 % 5 + 1 = omega arith in
    let house : h ≡ c.args.i / 32 / 5 + 1 = omega arith in
    let seeds : count ≡ c.args.i % 32 = omega arith in
    rw (side, house, seeds) c.new-2.ensures
