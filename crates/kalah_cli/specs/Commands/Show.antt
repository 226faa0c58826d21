-- What `kalah show` prints.
use Rattle.std.specs.{Prelude.{ℕ, List, [], ◌∷◌, ◌++◌, Bool, ◌==◌, ◌&&◌, ◌||◌, Option, count_by, find, flat_map, if◌then◌else◌, int_lt, length, nat_lt}, Option.{option_map_or}, List.{range_with_len}, Ordering.{int_eq}}
use Rattle.kalah_rules.specs.{Position.{Position}, Play.{position_after, step_of}}
use Rattle.kalah_solve.specs.{Solver.MoveValues.{values_of}, declared.solver.move_values.MoveValue.{MoveValue}}
use Rattle.kalah_jobs.specs.{Files.Lines.{line_feed}, Writing.{Picture.{picture_of}, ValuesLine.{shown_of}, Variation.{variation_start}}}
use Rattle.kalah_cli.specs.Commands.Game.{best_game, game_text, Houses}

-- the move of v and best play after it, to the end of the game: its house, its value, and the houses that are moved, from this one on
abbrev pub variation_line : Position → MoveValue → List ℕ
variation_line p v =
    let q = position_after (step_of p v.house) in
    variation_start v ++ (game_text Houses q (best_game q) ++ line_feed ∷ [])

-- v is better than w: its value is greater, or the same, and its house is the lower-numbered one
unfoldable pub is_better : MoveValue → MoveValue → Bool
is_better v w = int_lt w.value v.value || (int_eq v.value w.value && nat_lt v.house w.house)

-- the rank of a move: how many of the moves are better
abbrev pub rank_in : List MoveValue → MoveValue → ℕ
rank_in values v = count_by (λ w. is_better w v) values

-- the move of this rank
abbrev pub move_of_rank : List MoveValue → ℕ → Option MoveValue
move_of_rank values rank = find (λ v. rank_in values v == rank) values

-- the line of the move of this rank
abbrev pub ranked_line : Position → ℕ → List ℕ
ranked_line p rank = option_map_or (variation_line p) (move_of_rank (values_of p) rank) []

-- a line for each move, the best first
abbrev pub variation_lines : Position → List ℕ
variation_lines p = flat_map (ranked_line p) (range_with_len 0 (length (values_of p)))

-- the lines of all moves, if they are asked for
abbrev pub lines_asked : Bool → Position → List ℕ
lines_asked lines p = if lines then variation_lines p else []

-- the picture alone if it is to be plain, otherwise with what each move is worth below it, and then the lines asked for
abbrev pub show_output : Bool → Bool → Position → List ℕ
show_output plain lines p = if plain then picture_of p else shown_of p ++ lines_asked lines p
