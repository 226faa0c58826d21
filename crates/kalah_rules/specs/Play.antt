-- The moves of a position and what each leads to.
use Rattle.std.specs.{Prelude.{ℕ, Bool, if◌then◌else◌, nat_lt, List, [], filter}, List.{range_with_len}}
use Rattle.kalah_rules.specs.{Position.{Position, side_length, seeds, is_over, swept, swapped}, Sowing.{after, moves_again}, declared.step.Step.{Step, TheVariants.{Again, Turn, Over}}}

-- the houses that hold seeds, in ascending order, and none if the game is over
abbrev pub legal_houses : Position → List ℕ
legal_houses p = if is_over p then [] else filter (λ i. nat_lt 0 (seeds p.own i)) (range_with_len 1 (side_length p))

-- what the position q after a move becomes: swept if the game is over, otherwise with the sides swapped unless the mover moves again
abbrev pub step_to : Position → Bool → Step
step_to q again = if is_over q then Over (swept q) else (if again then Again q else Turn (swapped q))

-- the step of the move of house h
abbrev pub step_of : Position → ℕ → Step
step_of p h = step_to (after p h) (moves_again p h)

-- the position that a step leads to
abbrev pub position_after : Step → Position
position_after (Again p) = p
position_after (Turn p) = p
position_after (Over p) = p
