-- How a position is drawn, as a board with the player to move below.
use Rattle.std.specs.{List.{range_with_len}, Prelude.{ℕ, ◌-◌, ◌*◌, List, [], ◌∷◌, ◌++◌, length, flat_map, replicate, decimal}}
use Rattle.kalah_rules.specs.Position.{Position, opposite, seeds, side_length}
use Rattle.kalah_jobs.specs.{Files.Lines.{line_feed}, Line.Line.{space}, Types.{Player, Mover, Other}, Writing.Player.{houses_of}}

-- the bytes of a column
abbrev pub column_width : ℕ
column_width = 4

-- a number at the right of a column
abbrev pub column_text : ℕ → List ℕ
column_text n = replicate (column_width - length (decimal n)) space ++ decimal n

-- n columns with nothing in them
abbrev pub empty_columns : ℕ → List ℕ
empty_columns n = replicate (column_width * n) space

-- the house that a player has in a column: the mover's houses ascend from left to right, and the opponent's descend
abbrev pub house_in : Player → Position → ℕ → ℕ
house_in Mover p column = column
house_in Other p column = opposite p column

-- what a player has in a column
abbrev pub seeds_in : Player → Position → ℕ → ℕ
seeds_in player p column = seeds (houses_of player p) (house_in player p column)

-- an empty column, and the player's houses, a column each
abbrev pub houses_line : Player → Position → List ℕ
houses_line player p = empty_columns 1 ++ flat_map (λ column. column_text (seeds_in player p column)) (range_with_len 1 (side_length p))

-- the opponent's store at the left, and the mover's at the right
abbrev pub stores_line : Position → List ℕ
stores_line p = column_text p.other_store ++ (empty_columns (side_length p) ++ column_text p.own_store)

-- the opponent's houses above, the stores, and the mover's houses below
unfoldable pub picture_of : Position → List ℕ
picture_of p = houses_line Other p ++ (line_feed ∷ stores_line p ++ (line_feed ∷ houses_line Mover p ++ line_feed ∷ []))
