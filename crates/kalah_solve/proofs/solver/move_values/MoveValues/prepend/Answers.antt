-- The value becomes the lowest digit of the number, which stays within its bits.
use Rattle.std.proofs.Common.{arith}
use Rattle.kalah_solve.proofs.MoveValuesLemmas.{values_prepended, packed_prepended, fits_prepended}
use Rattle.kalah_solve.proofs.solver.move_values.MoveValues.prepend.Goals as goal

pub overflow_mul-self : goal.overflow_mul-self
overflow_mul-self c =
    omega (arith, fits_prepended c.self.inside.number c.requires.small c.self.invariant c.self.view_is c.requires.room)

pub overflow_add-self : goal.overflow_add-self
overflow_add-self c =
    omega (arith, fits_prepended c.self.inside.number c.requires.small c.self.invariant c.self.view_is c.requires.room)

pub invariant_of-self : goal.invariant_of-self
invariant_of-self c =
    rw c.digit.ensures (packed_prepended c.self.inside.number c.requires.small c.self.invariant c.self.view_is c.requires.room)

pub returns : goal.returns
returns c = rw c.digit.ensures (values_prepended c.self.inside.number c.requires.small c.self.invariant c.self.view_is c.requires.room)
