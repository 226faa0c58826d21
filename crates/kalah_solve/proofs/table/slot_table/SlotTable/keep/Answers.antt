-- The slot of the key has bounds that are true of the houses; all other slots stay.
use Rattle.std.proofs.Common.{arith, ◌∙◌, length-set}
use Rattle.kalah_solve.{specs.{IsWithinSlot, won}, proofs.SlotLemmas.{slots_stay_true}}
use Rattle.kalah_solve.proofs.table.slot_table.SlotTable.keep.Goals as goal

pub invariant_of-self : goal.invariant_of-self
invariant_of-self g c =
    let slots = c.self.inside.slots.items in
    let at = c.slot_index-at in
    let mixed = c.mixed_key-mixed in
    let count = length-set slots at.result c.of-stored.result in
    let known : IsWithinSlot c.of-stored.result (won c.args.houses.now) = record {
      least = rw c.of-stored.ensures.least c.requires.least;
      most = rw c.of-stored.ensures.most c.requires.most;
    } in (
      rw count c.self.invariant.0,
      slots_stay_true _ _ c.self.invariant.0.least c.self.invariant.1
          mixed.ensures.limits mixed.ensures.mixed at.ensures.slot (omega (arith, at.ensures.inside, c.self.invariant.0.all))
          (c.of-stored.ensures.tag ∙ c.tag_of.ensures.tag) known,
    )
