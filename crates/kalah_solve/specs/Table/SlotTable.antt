-- How bounds of houses are represented, in slots; no part of what is promised to players.
use Rattle.std.specs.Prelude.{◌≡◌, ◌⊎◌, ℕ, ◌-◌, ◌*◌, ◌/◌, ◌%◌, ◌^◌, ◌<◌, ◌≤◌, max, min, List, length, slice_index_or}
use Rattle.kalah_rules.specs.{Position.{HousesState, AreWithinLimits}, Key.{key_of}}
use Rattle.kalah_solve.specs.{Bounds.Won.{won}, Table.Entries.{most_entries}, declared.table.{TheConstants.{FIRST_SLOTS}, slot_table.{TheConstants.{LEAST_SLOTS, MIX}, Slot.{Slot}}}}

-- a key, mixed: each key has a number of its own
unfoldable pub mixed : ℕ → ℕ
mixed key = key * MIX % 2 ^ 64

-- the slot of a mixed key: its bits from `shift` on
abbrev pub slot_index : ℕ → ℕ → ℕ
slot_index shift number = number / 2 ^ shift

-- the tag of a mixed key: its lowest 54 bits, which are all that any slot leaves open
abbrev pub tag_of : ℕ → ℕ
tag_of number = number % 2 ^ 54

-- a slot keeps the tag of the last houses that had it
abbrev pub stored_tag : Slot → ℕ
stored_tag p = p.stored / 1024

-- the least that the mover is known to win of them
abbrev pub stored_least : Slot → ℕ
stored_least p = p.stored % 32

-- the most that the mover is known to win of them
abbrev pub stored_most : Slot → ℕ
stored_most p = p.stored / 32 % 32

-- the number is within the bounds that the slot states
pub record IsWithinSlot (p : Slot) (t : ℕ) : Type 0 where
  pub least : stored_least p ≤ t
  pub most : t ≤ stored_most p

-- what a slot states is true of all houses that have it and its tag
abbrev pub AreTrueSlots : ℕ → List Slot → Type 0
AreTrueSlots shift slots = (a : HousesState) (number : ℕ) (d : Slot) → AreWithinLimits a → number ≡ mixed (key_of a) →
    slot_index shift number < length slots →
    stored_tag (slice_index_or slots (slot_index shift number) d) ≡ tag_of number →
    IsWithinSlot (slice_index_or slots (slot_index shift number) d) (won a)

-- how many slots a table of this capacity has: the greatest power of two that is no more, and never fewer than 1,024
pub record AreSlotsFor (capacity count : ℕ) : Type 0 where
  pub power : ℕ
  pub count_is : count ≡ 2 ^ power
  pub most : count ≤ max LEAST_SLOTS capacity
  pub next : max LEAST_SLOTS capacity < 2 * count

-- the slots of a table of this capacity: its first ones, or all
abbrev pub AreSlots : ℕ → List Slot → Type 0
AreSlots capacity slots = AreSlotsFor (min capacity FIRST_SLOTS) (length slots) ⊎ AreSlotsFor (min capacity most_entries) (length slots)

-- a slot for each value of a mixed key's bits from `shift` on, and enough that no two keys share a slot and a tag
pub record AreSlotsByShift (shift count : ℕ) : Type 0 where
  pub all : count ≡ 2 ^ (64 - shift)
  pub least : shift ≤ 54
