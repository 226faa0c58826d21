-- The new house is the next digit of the number, so the cells are those from before and one more at the end.
use Rattle.std.proofs.Common.{◌≡◌, ◌-◌, ◌∷◌, [], ◌++◌, ap, refl, sym, ◌∙◌, length, arith, sum}
use Rattle.kalah_rules.proofs.KeyLemmas.{length-cells, row_is_small, houses_pushed, row_pushed}
use Rattle.kalah_rules.proofs.houses.house_row.HouseRow.push.Goals as goal

pub overflow_add-self : goal.overflow_add-self
overflow_add-self c = let more = row_is_small (row_pushed c.args.seeds c.self.invariant c.if-total.false c.if-self-ge-MOST_HOUSES.false) in
    let at : c.new.result - 1 ≡ c.self.inside.count = omega arith in
    let gain = rw at at c.row_with.ensures in
    omega arith

pub invariant_of-self : goal.invariant_of-self
invariant_of-self c =
    let at : c.new.result - 1 ≡ c.self.inside.count = omega arith in
    rw (c.row_with.ensures, at) (row_pushed c.args.seeds c.self.invariant c.if-total.false c.if-self-ge-MOST_HOUSES.false)

pub returns-clause-room : goal.returns-clause-room
returns-clause-room c =
    let long = ap length (sym c.self.view_is) ∙ length-cells c.self.inside.count c.self.inside.number in
    let total = ap sum (sym c.self.view_is) ∙ c.self.invariant.seeds_are in
    (λ t. (omega arith, omega arith), λ room. refl)

pub returns-clause-pushed : goal.returns-clause-pushed
returns-clause-pushed c =
    let at : c.new.result - 1 ≡ c.self.inside.count = omega arith in
    let pushed = houses_pushed c.args.seeds c.self.invariant c.if-total.false in
    rw (c.row_with.ensures, at, pushed) (ap (λ houses. houses ++ c.args.seeds ∷ []) c.self.view_is)
