-- The cells of a lap as the sowing walks them.
use Rattle.std.specs.Prelude.{ℕ, ◌+◌, ◌-◌, ◌<◌, ◌≤◌, slice_set}
use Rattle.kalah_rules.specs.{Position.{Position, side_length, seeds}, Sowing.{own_distance, store_distance, other_distance}}

-- a cell that a move can sow: the houses of both players and the mover's store
pub data Cell : Type 0 where
  Own : ℕ → Cell
  Store : Cell
  Other : ℕ → Cell

-- how far a cell lies from own house h, if a side has m houses
abbrev pub distance : ℕ → ℕ → Cell → ℕ
distance m h (Own i) = own_distance m h i
distance m h Store = store_distance m h
distance m h (Other j) = other_distance m h j

-- the cell is one of sides of m houses
abbrev pub IsCellOf : ℕ → Cell → Type 0
IsCellOf m (Own i) = (1 ≤ i) × (i ≤ m)
IsCellOf m Store = Unit {0}
IsCellOf m (Other j) = (1 ≤ j) × (j ≤ m)

-- one more seed in a cell
abbrev pub with_seed : Position → Cell → Position
with_seed p (Own i) = record p { own = slice_set p.own (i - 1) (seeds p.own i + 1) }
with_seed p Store = record p { own_store = p.own_store + 1 }
with_seed p (Other j) = record p { other = slice_set p.other (j - 1) (seeds p.other j + 1) }

-- house h without its seeds
abbrev pub lifted : Position → ℕ → Position
lifted p h = record p { own = slice_set p.own (h - 1) 0 }

-- h is an own house with seeds
pub record HoldsSeeds (p : Position) (h : ℕ) : Type 0 where
  pub first : 1 ≤ h
  pub last : h ≤ side_length p
  pub some : 0 < seeds p.own h
