-- How a row with few seeds is represented, by a low number, so that a short list has room; no part of what is promised to players.
use Rattle.std.specs.Prelude.{ℕ, zero, suc, ◌+◌, ◌*◌, List, [], ◌∷◌, ◌++◌, length, sum}
use Rattle.kalah_rules.specs.Position.{HousesState}

-- the number of ways to choose k of n things
unfoldable pub choose : ℕ → ℕ → ℕ
choose n zero = 1
choose zero (suc k) = 0
choose (suc n) (suc k) = choose n k + choose n (suc k)

-- the rank of a row among all rows of the same length: first come those with fewer seeds, and of those with equally many seeds
-- the ones with fewer seeds past the first cell
abbrev pub row_rank : List ℕ → ℕ
row_rank [] = 0
row_rank (x ∷ xs) = choose (x + sum xs + length xs) (suc (length xs)) + row_rank xs

-- the seeds of a row from each cell on, as a number with five bits for each
abbrev pub packed_sums : List ℕ → ℕ
packed_sums [] = 0
packed_sums (x ∷ xs) = x + sum xs + 32 * packed_sums xs

-- the rank of the houses of both players in one row
abbrev pub rank_of_houses : HousesState → ℕ
rank_of_houses a = row_rank (a.own ++ a.other)
