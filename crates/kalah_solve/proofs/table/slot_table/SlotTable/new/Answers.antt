use Rattle.std.proofs.{Common.{arith, refl, ◌≡◌, ◌-◌, ◌*◌, ◌%◌, ◌^◌}, lemmas.List.{length-replicate}}
use Rattle.kalah_solve.proofs.SlotLemmas.{unknown_slots_are_true, ten_bits}
use Rattle.kalah_solve.proofs.table.slot_table.SlotTable.new.Goals as goal

pub invariant_of-result : goal.invariant_of-result
invariant_of-result g c =
    let unknown = c.of.result in
    let bits = c.ilog2-bits in
    let count : 1 * 2 ^ bits.result % 2 ^ 64 ≡ 2 ^ bits.result = omega (arith, bits.ensures.power_le) in
    let back : 64 - (64 - bits.result) ≡ bits.result = omega (arith, bits.ensures.bound) in
    let all = c.in_ok-slots.ensures.items_if_clones_equal (λ y same. same) in
    rw all (
      record {
        all = rw (length-replicate _ unknown, count, back) refl;
        least = omega (arith, ten_bits _ _ (omega arith) bits.ensures.next_power_gt);
      },
      unknown_slots_are_true _ _ _ c.of.ensures.least c.of.ensures.most,
    )
