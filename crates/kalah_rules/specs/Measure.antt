-- Why every game ends.
use Rattle.std.specs.{Prelude.{◌≡◌, ℕ, ◌+◌, ◌-◌, ◌*◌, ◌<◌, ◌⊎◌, List, length, sum_by}, List.{range_with_len}}
use Rattle.kalah_rules.specs.Position.{Position, side_length, seeds, seeds_in_houses}

-- the sum over the houses of a row of their seeds times their distance to the store: house i of m houses is m + 1 - i away
unfoldable pub row_distance : List ℕ → ℕ
row_distance row = sum_by (λ i. seeds row i * (length row + 1 - i)) (range_with_len 1 (length row))

-- the sum of the distances of the seeds of both players from the stores
abbrev pub distance_to_stores : Position → ℕ
distance_to_stores p = row_distance p.own + row_distance p.other

-- q has fewer seeds in houses than p, or equally many that are nearer to the stores
abbrev pub IsNearerEnd : Position → Position → Type 0
IsNearerEnd q p = (seeds_in_houses q < seeds_in_houses p) ⊎ ((seeds_in_houses q ≡ seeds_in_houses p)
    × (distance_to_stores q < distance_to_stores p))

-- an upper bound of the number of moves that are left
abbrev pub moves_left : Position → ℕ
moves_left p = seeds_in_houses p * (side_length p * seeds_in_houses p + 1) + distance_to_stores p
