-- How the numbers of ways to play on are printed.
use Rattle.std.specs.Prelude.{ℕ, List, [], ◌∷◌, ◌++◌, codes, decimal}
use Rattle.kalah_jobs.specs.Files.Lines.{line_feed}

-- `H N`: a house, and the number of ways after its move
abbrev pub ways_line : ℕ → ℕ → List ℕ
ways_line house n = decimal house ++ (codes " " ++ (decimal n ++ line_feed ∷ []))

-- `total N`: the number of all of them
abbrev pub total_line : ℕ → List ℕ
total_line n = codes "total " ++ (decimal n ++ line_feed ∷ [])
