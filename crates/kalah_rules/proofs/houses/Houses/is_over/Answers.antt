use Rattle.std.proofs.{Common.{arith}, lemmas.Bool.Decides.{nat_tests}}
use Rattle.kalah_rules.proofs.KeyLemmas.{packed_row-is_zero}
use Rattle.kalah_rules.proofs.houses.Houses.is_over.Goals as goal

pub returns-then-own_row-eq0 : goal.returns-then-own_row-eq0
returns-then-own_row-eq0 c = grind (arith, nat_tests, packed_row-is_zero c.args.self.now.own)

pub returns-else-own_row-eq0 : goal.returns-else-own_row-eq0
returns-else-own_row-eq0 c = grind (arith, nat_tests, packed_row-is_zero c.args.self.now.own, packed_row-is_zero c.args.self.now.other)
