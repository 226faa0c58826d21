-- The texts of positions and steps, as they are printed.
use Rattle.std.specs.{List.{join_with_byte}, Prelude.{ℕ, List, ◌∷◌, ◌++◌, map, codes, decimal}}
use Rattle.kalah_rules.specs.{Play.{position_after}, Position.{Position}, declared.step.Step.{Step, TheVariants.{Again, Turn, Over}}}
use Rattle.kalah_jobs.specs.Line.Line.{comma, slash, space, suffix_of}

-- the houses, with a comma between any two
abbrev pub listed : List ℕ → List ℕ
listed houses = join_with_byte comma (map decimal houses)

-- a side: its houses, a slash and its store
abbrev pub side_text : List ℕ → ℕ → List ℕ
side_text houses store = listed houses ++ slash ∷ decimal store

-- the line that writes the position, with each number in full
unfoldable pub line_text_of : Position → List ℕ
line_text_of p = side_text p.own p.own_store ++ space ∷ side_text p.other p.other_store ++ suffix_of p.rule

-- the word that is printed for a step
abbrev pub word_of_step : Step → List ℕ
word_of_step (Again _) = codes "again"
word_of_step (Turn _) = codes "turn"
word_of_step (Over _) = codes "over"

-- the house that is moved, the position after it and the word
unfoldable pub step_text_of : ℕ → Step → List ℕ
step_text_of house step = decimal house ++ space ∷ line_text_of (position_after step) ++ space ∷ word_of_step step
