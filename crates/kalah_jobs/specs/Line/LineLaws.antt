-- Laws of lines.
use Rattle.std.specs.Prelude.{◌≡◌, ℕ, ◌≤◌, ◌↔◌, List, ◌∷◌, ◌++◌, length, codes}
use Rattle.kalah_rules.specs.{Limits.{most_in_store, most_seeds}, Position.{Position, IsWithinLimits, seeds_in_houses}}
use Rattle.kalah_jobs.specs.{Limits.{most_line_bytes}, Line.Line.{space, without_cr, IsSide, HasSidesInLimits, Reads}, Types.{Classic, EmptyCapture}, Writing.PositionText.{line_text_of}}

-- no line is read as two positions
abbrev pub NoLineReadsTwice : Type 0
NoLineReadsTwice = (line : List ℕ) (p q : Position) → Reads line p → Reads line q → p ≡ q

-- a line that is read is the text of its position, but for a CR at its end
abbrev pub EveryLineIsItsText : Type 0
EveryLineIsItsText = (line : List ℕ) (p : Position) → Reads line p → without_cr line ≡ line_text_of p

-- the text of every position within the limits of a line is read as that position
abbrev pub EveryTextIsReadBack : Type 0
EveryTextIsReadBack = (p : Position) → IsWithinLimits p → p.own_store ≤ most_in_store → p.other_store ≤ most_in_store
    → Reads (line_text_of p) p

-- the line is read as the position by a program that knows no suffix and accepts at most `seeds` seeds
pub record ReadsPlainly (seeds : ℕ) (line : List ℕ) (p : Position) : Type 0 where
  pub few_bytes : length (without_cr line) ≤ most_line_bytes
  pub own_text : List ℕ
  pub other_text : List ℕ
  pub parts : without_cr line ≡ own_text ++ space ∷ other_text
  pub own_side : IsSide own_text p.own p.own_store
  pub other_side : IsSide other_text p.other p.other_store
  pub classic : p.rule ≡ Classic
  pub sides : HasSidesInLimits p
  pub few_seeds : seeds_in_houses p ≤ seeds

-- what such a program reads, of fewer seeds and without suffixes, is read here as the same position
abbrev pub PlainLinesReadTheSame : Type 0
PlainLinesReadTheSame = (seeds : ℕ) (line : List ℕ) (p : Position) → seeds ≤ most_seeds → ReadsPlainly seeds line p
    → Reads line p

-- of the lines that are read, those that end in ` e` are under the empty-capture rule, and no others
abbrev pub OnlyTheSuffixNamesTheRule : Type 0
OnlyTheSuffixNamesTheRule = (line : List ℕ) (p : Position) → Reads line p →
    ((p.rule ≡ EmptyCapture) ↔ ((front : List ℕ) × (without_cr line ≡ front ++ codes " e")))
