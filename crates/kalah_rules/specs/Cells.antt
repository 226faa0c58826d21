-- How rows are represented, in six cells as a caller gives them, and what may be given; no part of what is promised to players.
use Rattle.std.specs.Prelude.{◌≡◌, ℕ, ◌+◌, ◌-◌, ◌≤◌, List, ◌++◌, length, take, drop, replicate, All, sum}
use Rattle.std.proofs.Common.{arith, length-take-le}
use Rattle.kalah_rules.specs.{Limits.{most_houses, most_seeds, most_in_store}, Position.{Position, HousesState, with_stores, AreWithinLimits}, declared.rule.Rule.{Rule}}

-- the rows of m houses, which are the first of six cells
abbrev pub houses_from : ℕ → List ℕ → List ℕ → Rule → HousesState
houses_from m own other rule = record { own = take m own; other = take m other; rule = rule }

-- their position, with these seeds in the stores
abbrev pub position_of : ℕ → List ℕ → ℕ → List ℕ → ℕ → Rule → Position
position_of m own own_store other other_store rule = with_stores (houses_from m own other rule) own_store other_store

-- the first m cells of each row can be houses within the limits, and the cells past them hold nothing
pub record CanBeHouses (m : ℕ) (own : List ℕ) (other : List ℕ) : Type 0 where
  pub some_house : 1 ≤ m
  pub at_most_six : m ≤ most_houses
  pub own_past : All (λ x. x ≡ 0) (drop m own)
  pub other_past : All (λ x. x ≡ 0) (drop m other)
  pub few_seeds : sum own + sum other ≤ most_seeds

-- the stores of a position that is written down hold few seeds
pub record CanBeStores (own_store other_store : ℕ) : Type 0 where
  pub own_few : own_store ≤ most_in_store
  pub other_few : other_store ≤ most_in_store

-- what is required of a position that is written down
pub record CanStart (m : ℕ) (own : List ℕ) (own_store : ℕ) (other : List ℕ) (other_store : ℕ) : Type 0 where
  pub houses : CanBeHouses m own other
  pub stores : CanBeStores own_store other_store

-- the same, if the houses are given as rows
pub record CanStartFrom (rows : HousesState) (own_store other_store : ℕ) : Type 0 where
  pub houses : AreWithinLimits rows
  pub stores : CanBeStores own_store other_store

-- a list in six cells, with `none` past its end
abbrev pub padded_with : {X : Type 0} → X → List X → List X
padded_with none xs = xs ++ replicate (most_houses - length xs) none

-- a row in six cells, with 0 past the last house
abbrev pub padded : List ℕ → List ℕ
padded row = padded_with 0 row

-- a list of at most six, in six cells
pub record AreAtMostSix {X : Type 0} (none : X) (len : ℕ) (cells : List X) : Type 0 where
  pub cells_are_six : length cells ≡ most_houses
  pub few : len ≤ most_houses
  pub rest_is_none : padded_with none (take len cells) ≡ cells

pub length_of_six : {X : Type 0} {none : X} {len : ℕ} {cells : List X} → AreAtMostSix none len cells → length (take len cells) ≡ len
length_of_six {X} {none} {len} {cells} h = length-take-le len cells (omega (arith, h.cells_are_six, h.few))
