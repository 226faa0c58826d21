-- How a line is read, as a parser, so that what it is read as is a value. That this agrees with the grammar, for every line, is the law
-- `EntriesAreOne`.
use Rattle.std.specs.{Char.{is_ascii_digit}, Prelude.{ℕ, zero, suc, ◌+◌, ◌-◌, ◌*◌, ◌==◌, ◌&&◌, not, nat_lt, if◌then◌else◌, List, [], ◌∷◌, ◌++◌, length, Option, Some, None, Result, Ok, Err}}
use Rattle.kalah_rules.specs.{Limits.{most_houses, most_seeds}, Position.{Position, side_length, seeds_in_houses}}
use Rattle.kalah_jobs.specs.{Limits.{most_line_bytes}, Line.Line.{zero_digit, comma, slash, space, letter_e, without_cr}, Types.{LineFault, Rule, Classic, EmptyCapture, Long, Empty, Shape, Houses, Seeds}}

-- a first step of a reading, and with its value the next one
infixl 10 ◌>>=◌
abbrev pub ◌>>=◌ : {A B : Type 0} → Option A → (A → Option B) → Option B
None >>= f = None
(Some x) >>= f = f x

-- a number whose first digit was read, and the bytes after it
abbrev pub number_from : ℕ → List ℕ → ℕ × List ℕ
number_from high [] = (high, [])
number_from high (byte ∷ rest) =
    if nat_lt 0 high && is_ascii_digit byte then (10 * high + (byte - zero_digit), rest) else (high, byte ∷ rest)

-- the number at the front of the bytes, and the bytes after it
abbrev pub number_at : List ℕ → Option (ℕ × List ℕ)
number_at [] = None
number_at (byte ∷ rest) = if is_ascii_digit byte then Some (number_from (byte - zero_digit) rest) else None

-- what a side is read as, and the bytes after it
pub record SideRead : Type 0 where
  pub houses : List ℕ
  pub store : ℕ
  pub rest : List ℕ

-- the side of these houses whose store stands at the front of the bytes
abbrev pub store_at : List ℕ → List ℕ → Option SideRead
store_at houses bytes = do
  store ← number_at bytes
  Some (record { houses = houses; store = store.0; rest = store.1 })

-- what follows a house: the store after a slash, or more houses after a comma
abbrev pub after_house : (List ℕ → Option SideRead) → (List ℕ → Option SideRead) → List ℕ → Option SideRead
after_house store more [] = None
after_house store more (mark ∷ rest) = if mark == slash then store rest else (if mark == comma then more rest else None)

-- the side that begins with these houses and goes on, by at most `n` houses, at the front of the bytes
abbrev pub side_from : ℕ → List ℕ → List ℕ → Option SideRead
side_from zero houses bytes = None
side_from (suc n) houses bytes = do
  house ← number_at bytes
  after_house (store_at (houses ++ house.0 ∷ [])) (side_from n (houses ++ house.0 ∷ [])) house.1

-- the side at the front of the bytes
unfoldable pub side_at : List ℕ → Option SideRead
side_at bytes = side_from (length bytes) [] bytes

-- the rule that what stands after the second side names
abbrev pub rule_of_suffix : List ℕ → Option Rule
rule_of_suffix [] = Some Classic
rule_of_suffix (mark ∷ []) = None
rule_of_suffix (mark ∷ byte ∷ []) = if mark == space && byte == letter_e then Some EmptyCapture else None
rule_of_suffix (_ ∷ _ ∷ _ ∷ _) = None

-- the position with these sides and this rule
abbrev pub position_of_sides : SideRead → SideRead → Rule → Position
position_of_sides own other rule =
    record { own = own.houses; own_store = own.store; other = other.houses; other_store = other.store; rule = rule }

-- the position whose first side was read, from the bytes after that side
abbrev pub position_from : SideRead → List ℕ → Option Position
position_from own [] = None
position_from own (mark ∷ rest) = if mark == space then (do
  other ← side_at rest
  rule ← rule_of_suffix other.rest
  Some (position_of_sides own other rule)) else None

-- the position that the text writes, of any number of houses and seeds
unfoldable pub position_of_text : List ℕ → Option Position
position_of_text text = do
  own ← side_at text
  position_from own own.rest

-- a position that is written, if it is within the limits
abbrev pub admitted : Position → Result Position LineFault
admitted p =
    if not (length p.other == side_length p) then Err Houses
    else (if nat_lt most_houses (side_length p) then Err Houses
    else (if nat_lt most_seeds (seeds_in_houses p) then Err Seeds else Ok p))

-- a position that the text writes, if it is within the limits
abbrev pub admitted_if_written : Option Position → List ℕ → Result Position LineFault
admitted_if_written (Some p) text = admitted p
admitted_if_written None [] = Err Empty
admitted_if_written None (_ ∷ _) = Err Shape

-- the position that a line without its CR is read as, or its first fault
abbrev pub reading_of_text : List ℕ → Result Position LineFault
reading_of_text text = if nat_lt most_line_bytes (length text) then Err Long else admitted_if_written (position_of_text text) text

-- the position that a line is read as, or its first fault
unfoldable pub reading_of : List ℕ → Result Position LineFault
reading_of line = reading_of_text (without_cr line)
