use Rattle.std.proofs.Common.{arith}
use Rattle.kalah_rules.proofs.KeyLemmas.{fields_of, key_fits}
use Rattle.kalah_rules.proofs.houses.Houses.key.Goals as goal

pub overflow_add-result : goal.overflow_add-result
overflow_add-result c =
    let fields = fields_of c.self.invariant c.self.view_is in
    omega (arith, fields.rows_are, fields.variant_is, key_fits fields.limits)
