-- How houses, rows, and rows after a move are represented; no part of what is promised to players.
use Rattle.std.{proofs.Common.{arith}, specs.Prelude.{◌≡◌, ℕ, ◌≤◌, ◌+◌, ◌-◌, ◌*◌, ◌/◌, ◌%◌, ◌^◌, if◌then◌else◌, nat_le, sum}}
use Rattle.kalah_rules.specs.{Position.{Position, HousesState, total_seeds, AreWithinLimits}, Sowing.{row_of}, Limits.{most_houses, most_seeds}, Key.{packed_row, cells, packed_rows, variant_of, houses_in_key}, declared.houses.play.RowNumbers.{RowNumbers}}

-- the houses whose key has these rows, and this variant above them
abbrev pub houses_of_fields : ℕ → ℕ → HousesState
houses_of_fields rows variant = houses_in_key (rows + 2 ^ 60 * variant)

-- the fields of houses: both rows in one number, the number of seeds in them, and their variant
pub record AreFieldsOf (a : HousesState) (rows seeds variant : ℕ) : Type 0 where
  pub limits : AreWithinLimits a
  pub rows_are : packed_rows a ≡ rows
  pub seeds_are : total_seeds a ≡ seeds
  pub variant_is : variant_of a ≡ variant

-- these three numbers are the fields of some houses
abbrev pub AreFields : ℕ → ℕ → ℕ → Type 0
AreFields rows seeds variant = AreFieldsOf (houses_of_fields rows variant) rows seeds variant

-- the fields of one row: how many houses it has, their number, and the number of seeds in them
pub record AreRowFields (count number seeds : ℕ) : Type 0 where
  pub few_houses : count ≤ most_houses
  pub number_is : packed_row (cells count number) ≡ number
  pub seeds_are : sum (cells count number) ≡ seeds
  pub few_seeds : seeds ≤ most_seeds

-- both rows in one number and what came to the own store show a position
pub record ShowsPosition (r : RowNumbers) (p : Position) : Type 0 where
  pub own : r.rows % 2 ^ 30 ≡ packed_row p.own
  pub other : r.rows / 2 ^ 30 ≡ packed_row p.other
  pub store : r.store ≡ p.own_store

-- a house of a row begins at this bit of its number
pub record BeginsHouse (bit : ℕ) : Type 0 where
  pub whole : bit % 5 ≡ 0
  pub last : bit ≤ 25

-- the bit is that of house bit / 5 + 1
pub bit_of_house : {bit : ℕ} → BeginsHouse bit → 5 * (bit / 5 + 1 - 1) ≡ bit
bit_of_house begins = omega (arith, begins.whole)

-- one seed in each of n houses
abbrev pub ones : ℕ → ℕ
ones n = packed_row (row_of n (λ i. 1))

-- one seed in house i, for the houses up to x
abbrev pub up_to : ℕ → ℕ → ℕ
up_to x i = if nat_le i x then 1 else 0

-- one seed in each house up to x, of m houses
abbrev pub ones_up_to : ℕ → ℕ → ℕ
ones_up_to m x = packed_row (row_of m (up_to x))
