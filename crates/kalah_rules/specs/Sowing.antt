-- What a move does to the cells, by the distance of each from the house that is lifted.
use Rattle.std.specs.{Prelude.{◌≡◌, length, ℕ, ◌+◌, ◌-◌, ◌*◌, ◌/◌, ◌%◌, Bool, true, ◌&&◌, ◌==◌, nat_le, nat_lt, if◌then◌else◌, List, map, Option, Some, None, slice_set, find}, List.{range_with_len}}
use Rattle.kalah_rules.specs.{Position.{Position, HousesState, side_length, seeds, opposite}, declared.rule.Rule.{Rule, TheVariants.{Classic, EmptyCapture}}}

-- the number of cells of a lap, if a side has m houses: own houses, own store, other houses
abbrev pub lap_length : ℕ → ℕ
lap_length m = 2 * m + 1

-- how far each cell lies from own house h, which is a whole lap from itself
abbrev pub own_distance : ℕ → ℕ → ℕ → ℕ
own_distance m h i = if nat_lt h i then (i - h) else (i + lap_length m - h)

abbrev pub store_distance : ℕ → ℕ → ℕ
store_distance m h = m + 1 - h

abbrev pub other_distance : ℕ → ℕ → ℕ → ℕ
other_distance m h j = m + 1 - h + j

-- the seeds that the cell at distance d gets of c, on laps of n cells
abbrev pub gain : ℕ → ℕ → ℕ → ℕ
gain n c d = c / n + (if nat_le d (c % n) then 1 else 0)

-- the row of n houses whose house i holds f i
abbrev pub row_of : ℕ → (ℕ → ℕ) → List ℕ
row_of n f = map f (range_with_len 1 n)

-- house h is emptied, and c seeds are sown from it
unfoldable pub sow : Position → ℕ → ℕ → Position
sow p h c = record p {
  own = row_of (side_length p) (λ i.
      (if i == h then 0 else seeds p.own i) + gain (lap_length (side_length p)) c (own_distance (side_length p) h i));
  own_store = p.own_store + gain (lap_length (side_length p)) c (store_distance (side_length p) h);
  other = row_of (side_length p) (λ j. seeds p.other j + gain (lap_length (side_length p)) c (other_distance (side_length p) h j));
}

-- the seeds of house h are sown
abbrev pub sown : Position → ℕ → Position
sown p h = sow p h (seeds p.own h)

-- the distance at which the last seed falls
abbrev pub last_distance : Position → ℕ → ℕ
last_distance p h = (seeds p.own h - 1) % lap_length (side_length p) + 1

-- the last seed falls into the own store
abbrev pub moves_again : Position → ℕ → Bool
moves_again p h = last_distance p h == store_distance (side_length p) h

-- the last seed of house h of these houses falls into the store without a lap
abbrev pub EndsDirectlyInStore : HousesState → ℕ → Type 0
EndsDirectlyInStore a h = seeds a.own h + h ≡ length a.own + 1

-- the own house into which the last seed falls, if it is one
abbrev pub last_house : Position → ℕ → Option ℕ
last_house p h = find (λ i. own_distance (side_length p) h i == last_distance p h) (range_with_len 1 (side_length p))

-- a last seed alone in its house captures if the house across holds seeds; under the empty-capture rule it always does
abbrev pub captures : Rule → ℕ → Bool
captures Classic across = nat_lt 0 across
captures EmptyCapture across = true

-- own house i holds one seed, and the rule lets it capture
abbrev pub can_capture : Position → ℕ → Bool
can_capture p i = (seeds p.own i == 1) && captures p.rule (seeds p.other (opposite p i))

-- own house i and the house across are emptied into the own store
abbrev pub with_capture : Position → ℕ → Position
with_capture p i = record p {
  own = slice_set p.own (i - 1) 0;
  own_store = p.own_store + seeds p.own i + seeds p.other (opposite p i);
  other = slice_set p.other (opposite p i - 1) 0;
}

-- the capture that the last seed makes in a house, if it makes one
abbrev pub after_capture : Position → Option ℕ → Position
after_capture p None = p
after_capture p (Some i) = if can_capture p i then with_capture p i else p

-- the position after the move of house h, before the turn passes
unfoldable pub after : Position → ℕ → Position
after p h = after_capture (sown p h) (last_house p h)
