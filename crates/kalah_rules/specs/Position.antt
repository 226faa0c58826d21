-- A position of Kalah, from the side of the player to move, and what is derived from it.
use Rattle.std.specs.Prelude.{◌≡◌, ℕ, ◌+◌, ◌-◌, ◌≤◌, Bool, ◌||◌, ◌==◌, List, length, replicate, sum, slice_index, ℤ, pos, neg_ℤ, ◌-ℤ◌, ◌≤ℤ◌}
use Rattle.kalah_rules.specs.{Limits.{most_houses, most_seeds, most_in_play}, declared.rule.Rule.{Rule}}

-- each row lists a player's houses, house 1 first, the one farthest from the store
pub record Position : Type 0 where
  pub own : List ℕ
  pub own_store : ℕ
  pub other : List ℕ
  pub other_store : ℕ
  pub rule : Rule

-- the houses per side
abbrev pub side_length : Position → ℕ
side_length p = length p.own

-- both players have the same number of houses
pub record HasEqualSides (p : Position) : Type 0 where
  pub same : length p.other ≡ side_length p

-- the seeds in house i of a row
abbrev pub seeds : List ℕ → ℕ → ℕ
seeds row i = slice_index row (i - 1)

-- the house across from own house i, or from other house i
abbrev pub opposite : Position → ℕ → ℕ
opposite p i = side_length p + 1 - i

-- the seeds in the houses of both players
abbrev pub seeds_in_houses : Position → ℕ
seeds_in_houses p = sum p.own + sum p.other

-- the game is over: one of the players has no seeds in houses
abbrev pub is_over : Position → Bool
is_over p = (sum p.own == 0) || (sum p.other == 0)

-- each player's houses go to that player's store
abbrev pub swept : Position → Position
swept p = record p {
  own = replicate (side_length p) 0;
  own_store = p.own_store + sum p.own;
  other = replicate (side_length p) 0;
  other_store = p.other_store + sum p.other;
}

-- the margin of a position that is over
abbrev pub final_margin : Position → ℤ
final_margin p = pos (sum p.own + p.own_store) -ℤ pos (sum p.other + p.other_store)

-- no larger than what a player can have
pub record IsMarginInRange (z : ℤ) : Type 0 where
  pub low : neg_ℤ (pos most_in_play) ≤ℤ z
  pub high : z ≤ℤ pos most_in_play

-- the same position, seen by the opponent
abbrev pub swapped : Position → Position
swapped p = record p {
  own = p.other;
  own_store = p.other_store;
  other = p.own;
  other_store = p.own_store;
}

-- what holds of every board
pub record IsWithinLimits (p : Position) : Type 0 where
  pub some_house : 1 ≤ length p.own
  pub at_most_six : length p.own ≤ most_houses
  pub same_side : length p.other ≡ length p.own
  pub few_seeds : seeds_in_houses p ≤ most_seeds
  pub own_store_few : p.own_store + seeds_in_houses p ≤ most_in_play
  pub other_store_few : p.other_store + seeds_in_houses p ≤ most_in_play

-- the houses of a position and its rule, without stores
pub record HousesState : Type 0 where
  pub own : List ℕ
  pub other : List ℕ
  pub rule : Rule

abbrev pub houses_in : Position → HousesState
houses_in p = record { own = p.own; other = p.other; rule = p.rule }

-- the position of these houses, with these seeds in the stores
abbrev pub with_stores : HousesState → ℕ → ℕ → Position
with_stores a own_store other_store = record {
  own = a.own;
  own_store = own_store;
  other = a.other;
  other_store = other_store;
  rule = a.rule;
}

-- the position of these houses, with both stores empty
abbrev pub storeless : HousesState → Position
storeless a = with_stores a 0 0

-- the seeds in these houses, of both players
abbrev pub total_seeds : HousesState → ℕ
total_seeds a = seeds_in_houses (storeless a)

-- the same houses with no seeds in them
abbrev pub without_seeds : HousesState → HousesState
without_seeds a = record { own = replicate (length a.own) 0; other = replicate (length a.own) 0; rule = a.rule }

-- what holds of the houses of every board
pub record AreWithinLimits (a : HousesState) : Type 0 where
  pub some_house : 1 ≤ length a.own
  pub at_most_six : length a.own ≤ most_houses
  pub same_side : length a.other ≡ length a.own
  pub few_seeds : sum a.own + sum a.other ≤ most_seeds
