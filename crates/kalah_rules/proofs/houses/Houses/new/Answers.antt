use Rattle.std.proofs.Common.{arith, refl}
use Rattle.kalah_rules.proofs.KeyLemmas.{can_be_houses}
use Rattle.kalah_rules.proofs.houses.Houses.new.Goals as goal

pub returns-clause-valid : goal.returns-clause-valid
returns-clause-valid c =
    let own = c.in_ok-own.ensures in
    let other = c.in_ok-other.ensures in
    let within = rw (own.value, other.value) at c.of_rows.ensures.valid in
    let can = can_be_houses c.args.rule (omega arith) (omega arith) (omega arith) (own.valid.0 refl).0 (other.valid.0 refl).0 in
    (λ some. can.0 (within.0 some), λ houses. within.1 (can.1 houses))
