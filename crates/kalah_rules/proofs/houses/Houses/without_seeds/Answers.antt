use Rattle.kalah_rules.proofs.KeyLemmas.{fields_of, fields_without_seeds}
use Rattle.kalah_rules.proofs.houses.Houses.without_seeds.Goals as goal

pub invariant_of-result : goal.invariant_of-result
invariant_of-result c = (fields_without_seeds (fields_of c.self.invariant c.self.view_is)).0

pub returns : goal.returns
returns c = (fields_without_seeds (fields_of c.self.invariant c.self.view_is)).1
