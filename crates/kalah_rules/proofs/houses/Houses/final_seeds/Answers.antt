use Rattle.std.proofs.{Common.{◌≡◌, ◌≢◌, ◌∙◌, sym, arith, sum}, lemmas.Bool.Decides.{nat_tests}}
use Rattle.kalah_rules.proofs.KeyLemmas.{sum-zero, packed_row-zero}
use Rattle.kalah_rules.proofs.houses.Houses.final_seeds.Goals as goal

pub returns-then-own_row-eq0 : goal.returns-then-own_row-eq0
returns-then-own_row-eq0 c =
    let none = sum-zero _ (sym c.own_row.ensures.value ∙ c.if-own_row-eq0.true) in
    record { own = sym none; other = omega arith }

pub returns-else-own_row-eq0 : goal.returns-else-own_row-eq0
returns-else-own_row-eq0 c =
    let some : sum c.args.self.now.own ≢ 0 = λ e. c.if-own_row-eq0.false
    (c.own_row.ensures.value ∙ packed_row-zero _ e) in
    let none : sum c.args.self.now.other ≡ 0 = grind (arith, nat_tests) in
    record { own = omega arith; other = sym none }
