-- How a position is written in a line, as `1,1/0 1,1/0`, and which lines are read.
use Rattle.std.specs.{Char.{IsAsciiDigit}, Prelude.{◌≡◌, ◌≢◌, ℕ, ◌+◌, ◌-◌, ◌*◌, ◌<◌, ◌≤◌, ◌==◌, if◌then◌else◌, List, [], ◌∷◌, ◌++◌, length, codes}}
use Rattle.kalah_rules.specs.{Limits.{most_houses, most_seeds}, Position.{Position, side_length, seeds_in_houses}}
use Rattle.kalah_jobs.specs.{Limits.{most_line_bytes}, Line.LineFault.{order_of}, Types.{LineFault, Rule, Classic, EmptyCapture, Long, Empty, Shape, Houses, Seeds}}

-- the byte of `0`, after which come those of the other digits
abbrev pub zero_digit : ℕ
zero_digit = 48

-- the byte that may end a line
abbrev pub carriage_return : ℕ
carriage_return = 13

-- the bytes that stand between the parts of a line
abbrev pub comma : ℕ
comma = 44

abbrev pub slash : ℕ
slash = 47

abbrev pub space : ℕ
space = 32

-- the byte that names the empty-capture rule, after a space
abbrev pub letter_e : ℕ
letter_e = 101

-- ---- the grammar

-- the line without one CR at its end, if it has one
abbrev pub without_cr : List ℕ → List ℕ
without_cr [] = []
without_cr (byte ∷ []) = if byte == carriage_return then [] else byte ∷ []
without_cr (byte ∷ more ∷ rest) = byte ∷ without_cr (more ∷ rest)

-- the text writes the number: `0`, or one or two digits that do not start with `0`
abbrev pub IsNumber : List ℕ → ℕ → Type 0
IsNumber [] n = ⊥
IsNumber (ones ∷ []) n = IsAsciiDigit ones × (n ≡ ones - zero_digit)
IsNumber (tens ∷ ones ∷ []) n = IsAsciiDigit tens × (tens ≢ zero_digit) × IsAsciiDigit ones
    × (n ≡ 10 * (tens - zero_digit) + (ones - zero_digit))
IsNumber (_ ∷ _ ∷ _ ∷ _) n = ⊥

-- the text writes a house, a comma and others
pub record HasHouseBefore (text : List ℕ) (house : ℕ) (AreOthers : List ℕ → Type 0) : Type 0 where
  pub house_text : List ℕ
  pub others_text : List ℕ
  pub parts : text ≡ house_text ++ comma ∷ others_text
  pub house_written : IsNumber house_text house
  pub others_written : AreOthers others_text

-- the text writes the houses: one number or more, with a comma between each two
abbrev pub AreHouses : List ℕ → List ℕ → Type 0
AreHouses text [] = ⊥
AreHouses text (house ∷ []) = IsNumber text house
AreHouses text (house ∷ other ∷ houses) = HasHouseBefore text house (λ others. AreHouses others (other ∷ houses))

-- the text writes a side: its houses, a slash and its store
pub record IsSide (text : List ℕ) (houses : List ℕ) (store : ℕ) : Type 0 where
  pub houses_text : List ℕ
  pub store_text : List ℕ
  pub parts : text ≡ houses_text ++ slash ∷ store_text
  pub houses_written : AreHouses houses_text houses
  pub store_written : IsNumber store_text store

-- what stands after the second side
abbrev pub suffix_of : Rule → List ℕ
suffix_of Classic = []
suffix_of EmptyCapture = codes " e"

-- the text writes the position, of any number of houses and seeds: the mover's side, a space, the opponent's side
-- and the suffix of the rule
pub record IsLineOf (text : List ℕ) (p : Position) : Type 0 where
  pub own_text : List ℕ
  pub other_text : List ℕ
  pub parts : text ≡ own_text ++ space ∷ other_text ++ suffix_of p.rule
  pub own_side : IsSide own_text p.own p.own_store
  pub other_side : IsSide other_text p.other p.other_store

-- ---- what is read

-- as many houses on each side, and no more than six
pub record HasSidesInLimits (p : Position) : Type 0 where
  pub same_side : length p.other ≡ side_length p
  pub at_most_six : side_length p ≤ most_houses

-- the line is read as the position
pub record Reads (line : List ℕ) (p : Position) : Type 0 where
  pub few_bytes : length (without_cr line) ≤ most_line_bytes
  pub form : IsLineOf (without_cr line) p
  pub sides : HasSidesInLimits p
  pub few_seeds : seeds_in_houses p ≤ most_seeds

-- each fault, of a line without its CR
abbrev pub Holds : LineFault → List ℕ → Type 0
Holds Long text = most_line_bytes < length text
Holds Empty text = text ≡ []
Holds Shape text = (p : Position) → ¬ IsLineOf text p
Holds Houses text = (p : Position) × (IsLineOf text p × (¬ HasSidesInLimits p))
Holds Seeds text = (p : Position) × (IsLineOf text p × (most_seeds < seeds_in_houses p))

-- the first fault that holds of the line
pub record HasFault (line : List ℕ) (fault : LineFault) : Type 0 where
  pub holds : Holds fault (without_cr line)
  pub first : (earlier : LineFault) → order_of earlier < order_of fault → ¬ Holds earlier (without_cr line)
