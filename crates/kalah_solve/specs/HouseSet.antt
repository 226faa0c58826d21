-- How sets of houses are represented, as masks; no part of what is promised to players.
use Rattle.std.specs.Prelude.{◌≡◌, ◌↔◌, ℕ, zero, suc, ◌+◌, ◌-◌, ◌/◌, ◌%◌, ◌^◌, ◌≤◌, ◌<◌, min}
use Rattle.kalah_rules.specs.{Sowing.{row_of, store_distance}, Key.{packed_row}}

-- cell i of a number, of five bits each: in a row the seeds of house i + 1, in a mask whether the set has that house
abbrev pub cell : ℕ → ℕ → ℕ
cell number zero = number % 32
cell number (suc i) = cell (number / 32) i

-- the mask of a set of at most six houses
pub record IsMask (mask : ℕ) : Type 0 where
  pub small : mask < 2 ^ 30
  pub single : (i : ℕ) → cell mask i ≤ 1

-- house h is the last one in the set
pub record IsLastIn (mask h : ℕ) : Type 0 where
  pub first : 1 ≤ h
  pub last : h ≤ 6
  pub low : 32 ^ (h - 1) ≤ mask
  pub high : mask < 32 ^ suc (h - 1)

-- the set without house h
abbrev pub without_house : ℕ → ℕ → ℕ
without_house mask h = mask - 32 ^ (h - 1)

-- the set has the houses of a row that hold seeds
pub record IsMaskOfFilled (row mask : ℕ) : Type 0 where
  pub cells : (i : ℕ) → i < 6 → cell mask i ≡ min 1 (cell row i)
  pub are : IsMask mask

-- the row of m houses that all end in the store
abbrev pub all_into_store : ℕ → ℕ
all_into_store m = packed_row (row_of m (store_distance m))

-- the set has the houses of a row of m that end in the store without a lap, and of the places past house m none that is empty
pub record IsMaskIntoStore (row m mask : ℕ) : Type 0 where
  pub inside : (i : ℕ) → i < m → (0 < cell mask i) ↔ (cell row i + i ≡ m)
  pub past : (i : ℕ) → i < 6 → m ≤ i → cell row i ≡ 0 → cell mask i ≡ 0
  pub are : IsMask mask
