use Rattle.std.proofs.Common.{◌∙◌, arith, refl, sym}
use Rattle.kalah_solve.proofs.MoveValuesLemmas.{values_in-positive, rest_packed, values_in-one_digit_more}
use Rattle.kalah_solve.proofs.solver.move_values.MoveValues.split_first.Goals as goal

pub invariant_of-rest : goal.invariant_of-rest
invariant_of-rest c =
    let rest = rest_packed 5 c.self.inside.number (omega arith) c.self.invariant in
    rw (values_in-one_digit_more 5 _ rest.1) rest.1

pub returns-clause-split : goal.returns-clause-split
returns-clause-split c =
    let some = rest_packed 5 c.self.inside.number (omega arith) c.self.invariant in
    sym c.self.view_is
    ∙ rw (values_in-positive 5 c.self.inside.number (omega arith), values_in-one_digit_more 5 _ some.1, c.of_digit.ensures) refl
