-- How turns that wait to be searched are represented; no part of what is promised to players.
use Rattle.std.specs.Prelude.{◌≡◌, ℕ, ◌%◌, ◌<◌, List, length, slice_index, slice_index_or, slice_set}
use Rattle.kalah_rules.specs.Position.{HousesState}

-- each turn that waits has the place that its priority names
pub record ArePlaced (priorities : List ℕ) (turns : List HousesState) : Type 0 where
  pub cells : length priorities ≡ 8
  pub six_turns : length turns ≡ 6
  pub inside : (k : ℕ) → 0 < slice_index priorities k → k < 6
  pub named : (k : ℕ) → 0 < slice_index priorities k → slice_index priorities k % 8 ≡ k

-- no turn waits
abbrev pub IsEmpty : List ℕ → Type 0
IsEmpty priorities = (k : ℕ) → slice_index priorities k ≡ 0

-- a turn that waited leaves the houses b, and the priorities without it are `rest`
pub record IsTaken (priorities : List ℕ) (turns : List HousesState) (b : HousesState) (rest : List ℕ) : Type 0 where
  pub at : ℕ
  pub some : 0 < slice_index priorities at
  pub turn_is : b ≡ slice_index_or turns at b
  pub rest_is : rest ≡ slice_set priorities at 0
