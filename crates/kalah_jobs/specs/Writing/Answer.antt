-- The answer to a line, and how it is printed.
use Rattle.std.specs.{Fmt.{signed_decimal}, List.{join_with_byte}, Prelude.{ℕ, ◌+◌, List, [], ◌∷◌, ◌++◌, map, if◌then◌else◌, codes, decimal, ⊤}}
use Rattle.kalah_rules.specs.{Play.{legal_houses, step_of}, Position.{Position, is_over, final_margin}}
use Rattle.kalah_solve.specs.Solver.{MoveValues.{values_of}, Worth.{worth, best_house}}
use Rattle.kalah_jobs.specs.{Files.Lines.{line_feed}, Line.{Line.{space}, LineFault.{fault_word}}, Types.{Entry, BestMoveOf, ValuesOf, StepsOf, Bad, Answer, Taken, MoveValue}, Writing.PositionText.{step_text_of}, declared.writing.answer.Answer.TheVariants.{Best, Over, Values, Steps, Fault}}

-- the final margin of a game that is over, otherwise this answer
abbrev pub unless_over : Position → Answer → Answer
unless_over p answer = if is_over p then Over (final_margin p) else answer

-- The answer to what a line says, and is asked: the margin of best play and the lowest-numbered best house, each legal house with the
-- value of its move, or the steps of the position.
unfoldable pub answer_of : Entry → Answer
answer_of (BestMoveOf p) = unless_over p (Best (worth p) (best_house p))
answer_of (ValuesOf p) = unless_over p (Values (values_of p))
answer_of (StepsOf p) = unless_over p (Steps p)
answer_of (Bad fault) = Fault fault

-- `H:V`
abbrev pub value_text : MoveValue → List ℕ
value_text v = decimal v.house ++ (codes ":" ++ signed_decimal v.value)

-- the values with a space between any two
abbrev pub values_text : List MoveValue → List ℕ
values_text values = join_with_byte space (map value_text values)

-- the text of the step of a house: `H POSITION again`, `H POSITION turn` or `H POSITION over`
abbrev pub house_step_text : Position → ℕ → List ℕ
house_step_text p house = step_text_of house (step_of p house)

-- the texts of the steps of the legal houses, in ascending order
abbrev pub steps_texts : Position → List (List ℕ)
steps_texts p = map (house_step_text p) (legal_houses p)

-- the texts of an answer, each for a line of its own: those of steps, otherwise one, `MARGIN house H`, `MARGIN over`, `H:V H:V ..`
-- or `fault WORD`
abbrev pub answer_texts : Answer → List (List ℕ)
answer_texts (Best margin house) = (signed_decimal margin ++ (codes " house " ++ decimal house)) ∷ []
answer_texts (Over margin) = (signed_decimal margin ++ codes " over") ∷ []
answer_texts (Values values) = values_text values ∷ []
answer_texts (Steps p) = steps_texts p
answer_texts (Fault fault) = (codes "fault " ++ fault_word fault) ∷ []

-- the answer isn't of steps, so that it has one text
abbrev pub HasOneText : Answer → Type 0
HasOneText (Best margin house) = ⊤
HasOneText (Over margin) = ⊤
HasOneText (Values values) = ⊤
HasOneText (Steps p) = ⊥
HasOneText (Fault fault) = ⊤

-- texts in one line, with `; ` between any two
abbrev pub in_one_line : List (List ℕ) → List ℕ
in_one_line [] = []
in_one_line (text ∷ []) = text
in_one_line (text ∷ next ∷ texts) = text ++ (codes "; " ++ in_one_line (next ∷ texts))

-- the answer in one line
abbrev pub joined_text : Answer → List ℕ
joined_text answer = in_one_line (answer_texts answer)

-- what stands before each text of an answer, `NAME:LINE `. The number counts from 0
abbrev pub place_text : List ℕ → ℕ → List ℕ
place_text name number = name ++ (codes ":" ++ (decimal (number + 1) ++ codes " "))

-- `NAME:LINE TEXT`, where lines count from 1, for each text of the answer, with a line feed between any two
abbrev pub answer_line : List ℕ → Taken → List ℕ
answer_line name taken = join_with_byte line_feed (map (λ text. place_text name taken.line ++ text) (answer_texts taken.answer))

-- what is written for a line: its answer line, or the lines of its steps, and a line feed
abbrev pub answer_output : List ℕ → Taken → List ℕ
answer_output name taken = answer_line name taken ++ line_feed ∷ []
