use Rattle.std.proofs.Common.{arith, ◌+◌}
use Rattle.kalah_rules.proofs.KeyLemmas.{fields_of_rows}
use Rattle.kalah_rules.proofs.houses.Houses.of_rows.Goals as goal

pub invariant_of-result : goal.invariant_of-result
invariant_of-result c =
    (fields_of_rows (omega arith) c.number.ensures.value c.number-2.ensures.value c.len-m.ensures.value
    c.variant_number.ensures (omega arith)).0

pub returns-clause-value : goal.returns-clause-value
returns-clause-value c =
    (fields_of_rows {seeds = c.seeds.result + c.seeds-2.result} (omega arith)
    c.number.ensures.value c.number-2.ensures.value c.len-m.ensures.value c.variant_number.ensures (omega arith)).1
