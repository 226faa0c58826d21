use Rattle.std.proofs.Common.{arith, sym}
use Rattle.kalah_rules.proofs.KeyLemmas.{fields_of, rows_of_fields}
use Rattle.kalah_rules.proofs.houses.Houses.other_row.Goals as goal

pub returns-clause-value : goal.returns-clause-value
returns-clause-value c = sym (rows_of_fields (fields_of c.self.invariant c.self.view_is)).other

pub returns-clause-small : goal.returns-clause-small
returns-clause-small c = omega (arith, (rows_of_fields (fields_of c.self.invariant c.self.view_is)).fit)
