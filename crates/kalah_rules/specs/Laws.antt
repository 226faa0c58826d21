-- Laws over all positions.
use Rattle.std.specs.Prelude.{◌≡◌, ℕ, ◌+◌, ◌%◌, ◌≤◌, Contains}
use Rattle.kalah_rules.specs.{Position.{Position, HasEqualSides, side_length}, Sowing.{lap_length, sow, after}, Lap.{Cell, IsCellOf, distance, lifted, with_seed}, Play.{legal_houses}, Measure.{IsNearerEnd}}

-- every move of every position brings the game nearer to its end
abbrev pub EveryMoveNearsEnd : Type 0
EveryMoveNearsEnd = (p : Position) (h : ℕ) → HasEqualSides p → Contains (legal_houses p) h → IsNearerEnd (after p h) p

-- house h is emptied, and each of the seeds sown goes to the cell after the last one, round and round the lap
pub record IsSownSeedBySeed (p : Position) (h : ℕ) : Type 0 where
  pub none : sow p h 0 ≡ lifted p h
  pub more : (k : ℕ) (cell : Cell) → IsCellOf (side_length p) cell
      → distance (side_length p) h cell ≡ k % lap_length (side_length p) + 1 →
      sow p h (k + 1) ≡ with_seed (sow p h k) cell

abbrev pub SowingIsSeedBySeed : Type 0
SowingIsSeedBySeed = (p : Position) (h : ℕ) → HasEqualSides p → 1 ≤ h → h ≤ side_length p → IsSownSeedBySeed p h
