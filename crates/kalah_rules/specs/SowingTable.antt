-- How a sowing is represented, as one subtraction from both rows; no part of what is promised to players.
use Rattle.std.specs.Prelude.{◌≡◌, ℕ, ◌+◌, ◌-◌, ◌*◌, ◌%◌, ◌^◌, ◌==◌, ◌<◌, ◌≤◌, List, slice_index_or}
use Rattle.kalah_rules.specs.{Key.{packed_row}, Sowing.{lap_length, row_of, gain, own_distance, store_distance, other_distance}, declared.houses.sowing_table.Sowing.{Sowing}}

-- what the own row gains if c seeds are sown from house h, on sides of m houses
abbrev pub own_gains : ℕ → ℕ → ℕ → ℕ
own_gains m h c = packed_row (row_of m (λ i. gain (lap_length m) c (own_distance m h i)))

-- what the other row gains
abbrev pub other_gains : ℕ → ℕ → ℕ → ℕ
other_gains m h c = packed_row (row_of m (λ j. gain (lap_length m) c (other_distance m h j)))

-- what the own store gains
abbrev pub store_gains : ℕ → ℕ → ℕ → ℕ
store_gains m h c = gain (lap_length m) c (store_distance m h)

-- the place of the last seed: own house i has place i, the own store place m + 1, and the opponent's houses follow
abbrev pub last_place : ℕ → ℕ → ℕ → ℕ
last_place m h c = (h - 1 + c) % lap_length m + 1

-- the five bits of own house i of m, the lowest of them, and the bit of a key at which the house across begins
pub record IsLastHouse (m i bits lowest begin : ℕ) : Type 0 where
  pub house : bits ≡ 31 * 32 ^ (i - 1)
  pub seed : lowest ≡ 32 ^ (i - 1)
  pub across : begin ≡ 30 + 5 * (m - i)

-- no own house: the mask takes nothing of a row, so it never shows one seed
pub record IsNoHouse (bits lowest begin : ℕ) : Type 0 where
  pub house : bits ≡ 0
  pub seed : lowest ≡ 1
  pub across : begin ≡ 0

-- how c seeds of house h are sown: what both rows lose, modulo 2 ^ 64, what the store gains, and where the last seed falls
pub record IsSowing (m h c : ℕ) (s : Sowing) : Type 0 where
  pub loses : (s.loses + (own_gains m h c + 2 ^ 30 * other_gains m h c)) % 2 ^ 64 ≡ 32 ^ (h - 1) * c
  pub store : s.store ≡ store_gains m h c
  pub again : s.again ≡ (last_place m h c == m + 1)
  pub own : last_place m h c ≤ m → IsLastHouse m (last_place m h c) s.last_mask s.last_seed s.across_bit
  pub elsewhere : m < last_place m h c → IsNoHouse s.last_mask s.last_seed s.across_bit

-- the cell of c seeds of house h, on sides of m houses
pub record IsSowingCell (m h c k : ℕ) : Type 0 where
  pub first : 1 ≤ h
  pub last : h ≤ m
  pub side : m ≤ 6
  pub few : c < 32
  pub index : k ≡ 32 * (m + 5 * (h - 1) - 1) + c

-- the first n cells hold the sowings
abbrev pub AreSowings : ℕ → List Sowing → Type 0
AreSowings n cells = (m h c k : ℕ) (d : Sowing) → IsSowingCell m h c k → k < n → IsSowing m h c (slice_index_or cells k d)
