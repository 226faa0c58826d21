-- What `kalah count` prints.
use Rattle.std.specs.Prelude.{ℕ, zero, suc, List, [], ◌++◌, flat_map}
use Rattle.kalah_rules.specs.{Position.{Position}, Play.{legal_houses}, Ways.{ways, ways_by}}
use Rattle.kalah_jobs.specs.Writing.Counts.{total_line, ways_line}

-- the line of a house: how many ways begin with its move, with n moves after it
abbrev pub house_line : ℕ → Position → ℕ → List ℕ
house_line n p h = ways_line h (ways_by n p h)

-- a line for each legal house, in ascending order. No way of no moves begins with a move
abbrev pub ways_lines : ℕ → Position → List ℕ
ways_lines zero p = []
ways_lines (suc n) p = flat_map (house_line n p) (legal_houses p)

-- and below them the number of all ways of that many moves
abbrev pub count_output : ℕ → Position → List ℕ
count_output depth p = ways_lines depth p ++ total_line (ways depth p)
