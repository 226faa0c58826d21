-- The houses of a side, as they are kept, and the sides of a position.
use Rattle.std.specs.Prelude.{◌≡◌, ◌⊎◌, ℕ, ◌+◌, ◌<◌, ◌≤◌, List, length, sum, Some}
use Rattle.kalah_rules.specs.{Limits.{most_houses, most_in_store, most_seeds}, Position.{Position}}
use Rattle.kalah_jobs.specs.{Line.Reading.{side_at}, Types.{Rule}, declared.line.side.Side.{Side}}

-- the houses or their seeds are too many for a board, so that some are left out
pub record HaveNoRoom (houses : List ℕ) (left_out : ℕ) : Type 0 where
  pub some : 0 < left_out
  pub many : (most_houses < length houses) ⊎ (most_seeds < sum houses)

-- all houses are kept if there is room for them, otherwise some are left out
pub record AreKept (houses kept : List ℕ) (left_out : ℕ) : Type 0 where
  pub count : length kept + left_out ≡ length houses
  pub whole : (kept ≡ houses) ⊎ HaveNoRoom houses left_out

-- the bytes start with a side, whose houses are kept so, and go on with the rest
pub record StartsWithSide (bytes : List ℕ) (side : Side) (rest : List ℕ) : Type 0 where
  pub houses : List ℕ
  pub are_kept : AreKept houses side.kept side.left_out
  pub read : side_at bytes ≡ Some (record { houses = houses; store = side.store; rest = rest })

-- the sides are those of this position, which has a house, and stores as they are read
pub record AreSidesOf (p : Position) (own other : Side) (rule : Rule) : Type 0 where
  pub own_houses : AreKept p.own own.kept own.left_out
  pub own_store : own.store ≡ p.own_store
  pub other_houses : AreKept p.other other.kept other.left_out
  pub other_store : other.store ≡ p.other_store
  pub same_rule : rule ≡ p.rule
  pub some_house : 1 ≤ length p.own
  pub own_store_few : p.own_store ≤ most_in_store
  pub other_store_few : p.other_store ≤ most_in_store
