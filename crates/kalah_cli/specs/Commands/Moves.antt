-- What `kalah moves` and `kalah play` print of a move.
use Rattle.std.specs.Prelude.{ℕ, ℤ, List, [], ◌∷◌, ◌++◌, Bool, Option, None, flat_map, if◌then◌else◌}
use Rattle.kalah_rules.specs.{Position.{Position}, Play.{legal_houses, position_after, step_of}, declared.step.Step.{Step}}
use Rattle.kalah_jobs.specs.{Files.Lines.{line_feed}, Writing.{Picture.{picture_of}, PositionText.{step_text_of}, Variation.{value_suffix}}}

-- the picture of a position, if boards are drawn
abbrev pub board_lines : Bool → Position → List ℕ
board_lines boards p = if boards then picture_of p else []

-- the line of a move, with this value or none, and below it the position after it, if boards are drawn
abbrev pub move_lines : Bool → Option ℤ → ℕ → Step → List ℕ
move_lines boards value house step =
    step_text_of house step ++ (value_suffix value ++ line_feed ∷ board_lines boards (position_after step))

-- the moves of the legal houses, in ascending order
abbrev pub moves_output : Bool → Position → List ℕ
moves_output boards p = flat_map (λ h. move_lines boards None h (step_of p h)) (legal_houses p)
