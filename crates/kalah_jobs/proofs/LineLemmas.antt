-- The line of a position: how it is read, what its end says, and the first fault of any other line.
use Rattle.std.proofs.{Common.{◌≡◌, ℕ, ◌+◌, ◌<◌, ◌≤◌, inl, inr, List, [], ◌∷◌, ◌++◌, length, Some, refl, ap, ◌∙◌, arith, ◌==◌, Option, None, append_assoc, eqb-true, Result, Ok, Err, ◌≢◌, append-nil, codes}, lemmas.Bool.{cases_lt, lt-ltb, le-ltb, ne_eqb, Decides.{nat_tests, eqb_tells}}}
use Rattle.kalah_rules.specs.{Limits.{most_houses, most_seeds}, Position.{Position, side_length, seeds_in_houses}}
use Rattle.kalah_jobs.specs.{most_line_bytes, IsNumber, zero_digit, slash, IsSide, space, suffix_of, IsLineOf, without_cr, HasSidesInLimits, Reads, Holds, HasFault, carriage_return, letter_e, order_of, NoLineReadsTwice, OnlyTheSuffixNamesTheRule, ◌>>=◌, SideRead, side_at, rule_of_suffix, position_of_sides, position_from, position_of_text, admitted, admitted_if_written, reading_of, LineFault, Rule, Classic, EmptyCapture, Long, Empty, Shape, Houses, Seeds}
use Rattle.kalah_jobs.proofs.SideLemmas.{both_succeed, passes_and_succeeds, side_is_written, side_is_read}

-- ==== What writes a position, and what it is read as

-- ---- the suffix that names the rule

suffix_is_read : (rule : Rule) → rule_of_suffix (suffix_of rule) ≡ Some rule
suffix_is_read rule = grind arith

-- bytes that are read as a rule are its suffix
suffix_is_written : (bytes : List ℕ) (rule : Rule) → rule_of_suffix bytes ≡ Some rule → bytes ≡ suffix_of rule
suffix_is_written bytes rule read = grind (arith, nat_tests)

-- ---- positions

-- a side, a space, a side and a suffix write a line
line_of_sides : {text rest : List ℕ} {own other : SideRead} {rule : Rule} → side_at text ≡ Some own → own.rest ≡ space ∷ rest
    → side_at rest ≡ Some other → rule_of_suffix other.rest ≡ Some rule → IsLineOf text (position_of_sides own other rule)
line_of_sides {text} {rest} {own} {other} {rule} own_read space_next other_read rule_read =
    let first = side_is_written text own own_read in
    let second = side_is_written rest other other_read in
    record {
      own_text = first.text;
      other_text = second.text;
      parts = cc (
        first.parts,
        second.parts,
        suffix_is_written other.rest rule rule_read,
        append_assoc first.text (space ∷ second.text) (suffix_of rule),
      );
      own_side = simp first.houses_are first.side;
      other_side = simp second.houses_are second.side;
    }

-- two sides with a space between them, and a suffix, are read as their position
pub sides_are_read : (text : List ℕ) {rest : List ℕ} {own other : SideRead} {rule : Rule} → side_at text ≡ Some own
    → own.rest ≡ space ∷ rest → side_at rest ≡ Some other → rule_of_suffix other.rest ≡ Some rule
    → position_of_text text ≡ Some (position_of_sides own other rule)
unfolding position_of_text
sides_are_read text own_read space_next other_read rule_read = rw (own_read, space_next, other_read, rule_read) refl

-- what is read after the first side is a space, the other side and a suffix
rest_is_written : (text : List ℕ) (own : SideRead) (rest : List ℕ) (p : Position) → side_at text ≡ Some own → own.rest ≡ rest
    → position_from own rest ≡ Some p → IsLineOf text p
rest_is_written text own [] p own_read rest_is position_read = cc
rest_is_written text own (mark ∷ rest) p own_read rest_is position_read =
    let with_rule = λ (other : SideRead). rule_of_suffix other.rest >>= λ rule. Some (position_of_sides own other rule) in
    let read = passes_and_succeeds (mark == space) (side_at rest >>= with_rule) p position_read in
    let other = both_succeed (side_at rest) with_rule p read.1 in
    let rule = both_succeed (rule_of_suffix other.value.rest) (λ rule. Some (position_of_sides own other.value rule)) p other.second in
    let same : position_of_sides own other.value rule.value ≡ p = cc rule.second in
    rw (← same) (line_of_sides own_read (rest_is ∙ ap (◌∷ rest) (eqb-true mark space read.0)) other.first rule.first)

-- what is read is written
pub line_is_written : (text : List ℕ) (p : Position) → position_of_text text ≡ Some p → IsLineOf text p
unfolding position_of_text
line_is_written text p read =
    let own = both_succeed (side_at text) (λ (own : SideRead). position_from own own.rest) p read in
    rest_is_written text own.value own.value.rest p own.first refl own.second

-- what is written is read
pub line_is_read : (text : List ℕ) (p : Position) → IsLineOf text p → position_of_text text ≡ Some p
unfolding position_of_text
line_is_read text p line =
    let rest = line.other_text ++ suffix_of p.rule in
    let parts : text ≡ line.own_text ++ space ∷ rest =
    line.parts ∙ append_assoc line.own_text (space ∷ line.other_text) (suffix_of p.rule) in
    rw (
      parts,
      side_is_read (space ∷ rest) line.own_side (λ digit. omega arith),
      side_is_read (suffix_of p.rule) line.other_side (grind arith),
      suffix_is_read p.rule,
    ) refl

pub empty_is_no_line : (p : Position) → ¬ IsLineOf [] p
unfolding position_of_text side_at
empty_is_no_line p line = cc (line_is_read [] p line)

-- a line writes one position only
one_position : {text : List ℕ} {p q : Position} → IsLineOf text p → IsLineOf text q → p ≡ q
one_position {text} {p} {q} first second = cc (line_is_read text p first, line_is_read text q second)

-- ==== A line is read as a position, or it has its first fault

-- what holds of a line that is read so
abbrev pub IsReading : List ℕ → Result Position LineFault → Type 0
IsReading line (Ok p) = Reads line p
IsReading line (Err fault) = HasFault line fault

-- ---- every line is read, or has a fault

same_order : (a b : LineFault) → order_of a ≡ order_of b → a ≡ b
same_order a b same = grind arith

-- none of the faults before this place holds
abbrev NoneBefore : List ℕ → ℕ → Type 0
NoneBefore text n = (earlier : LineFault) → order_of earlier < n → ¬ Holds earlier text

none_at_first : (text : List ℕ) → NoneBefore text 1
none_at_first text earlier low = grind arith

-- if the fault at this place doesn't hold either, none before the next place holds
nor_this : {text : List ℕ} (fault : LineFault) → NoneBefore text (order_of fault) → ¬ Holds fault text
    → NoneBefore text (order_of fault + 1)
nor_this {text} fault before not earlier low holds = elim (cases_lt (order_of earlier) (order_of fault)) [
  | inl less ↦ before earlier less holds
  | inr more ↦ not (rw (same_order earlier fault (omega arith)) at holds)
]

not_empty : {text : List ℕ} {p : Position} → IsLineOf text p → ¬ Holds Empty text
not_empty {p = p} form empty = empty_is_no_line p (rw empty at form)

-- if the sides of the position are within the limits, those of the line are
not_houses : {text : List ℕ} {p : Position} → IsLineOf text p → HasSidesInLimits p → ¬ Holds Houses text
not_houses form sides (q, (other, wrong)) = wrong (rw (one_position form other) at sides)

-- a line of few bytes that writes the position is read as it, or has a fault of houses or seeds
position_is_read : (line : List ℕ) (p : Position) → length (without_cr line) ≤ most_line_bytes → NoneBefore (without_cr line) 4
    → IsLineOf (without_cr line) p → IsReading line (admitted p)
position_is_read line p few none form = elim (eqb_tells (length p.other) (side_length p)) [
  | inl same ↦ elim (cases_lt most_houses (side_length p)) [
    | inl many ↦
        rw (same.0, lt-ltb _ _ many) (record { holds = (p, (form, λ sides. omega (arith, sides.at_most_six))); first = none })
    | inr six ↦
        let sides : HasSidesInLimits p = record { same_side = same.1; at_most_six = six } in
        elim (cases_lt most_seeds (seeds_in_houses p)) [
          | inl many ↦
              let fit = not_houses form sides in
              rw (same.0, le-ltb _ _ six, lt-ltb _ _ many) (record { holds = (p, (form, many)); first = nor_this Houses none fit })
          | inr few_seeds ↦
              rw (same.0, le-ltb _ _ six, le-ltb _ _ few_seeds)
              (record { few_bytes = few; form = form; sides = sides; few_seeds = few_seeds })
        ]
  ]
  | inr other ↦ rw other.0 (record { holds = (p, (form, λ sides. other.1 sides.same_side)); first = none })
]

-- a line of few bytes that writes no position is empty, or has the fault of shape
nothing_is_read : (line text : List ℕ) → without_cr line ≡ text → NoneBefore (without_cr line) 2 → position_of_text text ≡ None
    → IsReading line (admitted_if_written None text)
nothing_is_read line [] text_is none unwritten = record { holds = text_is; first = none }
nothing_is_read line (byte ∷ text) text_is none unwritten = record {
  holds = λ p form. cc (line_is_read (without_cr line) p form);
  first = nor_this Empty none (λ empty. cc);
}

-- a line of few bytes is read, or has its first fault
few_are_read : (line : List ℕ) → length (without_cr line) ≤ most_line_bytes → NoneBefore (without_cr line) 2
    → (r : Option Position) → position_of_text (without_cr line) ≡ r → IsReading line (admitted_if_written r (without_cr line))
few_are_read line few none None read_as = nothing_is_read line (without_cr line) refl none read_as
few_are_read line few none (Some p) read_as =
    let form = line_is_written (without_cr line) p read_as in
    position_is_read line p few (nor_this Shape (nor_this Empty none (not_empty form)) (λ shape. shape p form)) form

-- a line of too many bytes is read as too long
pub long_is_read : (line : List ℕ) → most_line_bytes < length (without_cr line) → reading_of line ≡ Err Long
unfolding reading_of
long_is_read line long = rw (lt-ltb _ _ long) refl

pub is_reading : (line : List ℕ) → IsReading line (reading_of line)
unfolding reading_of
is_reading line = elim (cases_lt most_line_bytes (length (without_cr line))) [
  | inl long ↦ rw (lt-ltb _ _ long) (record { holds = long; first = none_at_first (without_cr line) })
  | inr few ↦
      let none = nor_this Long (none_at_first (without_cr line)) (λ long. omega arith) in
      rw (le-ltb _ _ few) (few_are_read line few none (position_of_text (without_cr line)) refl)
]

-- ---- in one way only

pub no_line_reads_twice : NoLineReadsTwice
no_line_reads_twice line p q first second = one_position first.form second.form

-- a line that is read has no fault
no_fault : (line : List ℕ) (p : Position) → Reads line p → (fault : LineFault) → ¬ Holds fault (without_cr line)
no_fault line p reads Long long = omega (arith, reads.few_bytes)
no_fault line p reads Empty empty = not_empty reads.form empty
no_fault line p reads Shape none = none p reads.form
no_fault line p reads Houses other = not_houses reads.form reads.sides other
no_fault line p reads Seeds (q, (form, many)) =
    omega (arith, ap seeds_in_houses (one_position form reads.form), reads.few_seeds)

one_fault : (line : List ℕ) (a b : LineFault) → HasFault line a → HasFault line b → a ≡ b
one_fault line a b first second = grind (arith, same_order a b, first.first b, second.first a, first.holds, second.holds)

one_reading : (line : List ℕ) (r s : Result Position LineFault) → IsReading line r → IsReading line s → r ≡ s
one_reading line (Ok p) (Ok q) first second = ap Ok (no_line_reads_twice line p q first second)
one_reading line (Ok p) (Err fault) first second = absurd (no_fault line p first fault second.holds)
one_reading line (Err fault) (Ok p) first second = absurd (no_fault line p second fault first.holds)
one_reading line (Err a) (Err b) first second = ap Err (one_fault line a b first second)

-- what holds of the line is what it is read as
pub only_reading : (line : List ℕ) (r : Result Position LineFault) → IsReading line r → reading_of line ≡ r
only_reading line r reading = one_reading line (reading_of line) r (is_reading line) reading

-- ==== What stands at the end of a line

-- the bytes before another byte stay
pub without_cr-append : (text : List ℕ) (byte : ℕ) (rest : List ℕ) → without_cr (text ++ byte ∷ rest) ≡ text ++ without_cr (byte ∷ rest)
without_cr-append (first ∷ second ∷ text) byte rest = ap (first ∷◌) (without_cr-append (second ∷ text) byte rest)
without_cr-append text byte rest = refl

-- one CR at the end is dropped
pub without_cr-cr : (text : List ℕ) → without_cr (text ++ carriage_return ∷ []) ≡ text
without_cr-cr text = without_cr-append text carriage_return [] ∙ append-nil text

-- any other byte at the end stays
pub without_cr-other : (text : List ℕ) (last : ℕ) → last ≢ carriage_return → without_cr (text ++ last ∷ []) ≡ text ++ last ∷ []
without_cr-other text last other =
    let stays : without_cr (last ∷ []) ≡ last ∷ [] = rw (ne_eqb last carriage_return other) refl in
    without_cr-append text last [] ∙ ap (text ++◌) stays

-- the lemmas for dropping a CR
pub ruleset ends_of_lines = (without_cr-cr, without_cr-other)

-- ==== Only the suffix of a line names the rule

-- the last of the bytes, or this byte if there are none
abbrev last_or : ℕ → List ℕ → ℕ
last_or byte [] = byte
last_or byte (first ∷ rest) = last_or first rest

-- what stands before another byte doesn't matter
last_or-append : (byte : ℕ) (front : List ℕ) (first : ℕ) (rest : List ℕ) → last_or byte (front ++ first ∷ rest) ≡ last_or first rest
last_or-append byte [] first rest = refl
last_or-append byte (other ∷ front) first rest = last_or-append other front first rest

-- a number ends in a digit
number_ends_in_digit : (byte : ℕ) (text : List ℕ) (n : ℕ) → IsNumber text n → last_or byte text ≤ zero_digit + 9
number_ends_in_digit byte text n written = grind arith

-- a side ends in a digit
side_ends_in_digit : (byte : ℕ) {text houses : List ℕ} {store : ℕ} → IsSide text houses store
    → last_or byte text ≤ zero_digit + 9
side_ends_in_digit byte {text} {store = store} side =
    let last : last_or byte text ≡ last_or slash side.store_text = cc (last_or-append byte side.houses_text slash side.store_text) in
    omega (arith, number_ends_in_digit slash side.store_text store side.store_written)

-- a line that ends in ` e` is under the empty-capture rule
rule_of_end : (rule : Rule) (text own other front : List ℕ) → text ≡ own ++ space ∷ other ++ suffix_of rule
    → last_or space other ≤ zero_digit + 9 → text ≡ front ++ codes " e" → rule ≡ EmptyCapture
rule_of_end EmptyCapture text own other front parts digit ends = refl
rule_of_end Classic text own other front parts digit ends =
    let last : letter_e ≡ last_or space other = cc (
      last_or-append 0 front space (letter_e ∷ []),
      last_or-append 0 own space other,
      append-nil (own ++ space ∷ other),
    ) in
    absurd (omega arith)

pub only_the_suffix_names_the_rule : OnlyTheSuffixNamesTheRule
only_the_suffix_names_the_rule line p reads =
    let form = reads.form in (
      λ rule_is. (
        form.own_text ++ space ∷ form.other_text,
        form.parts
            ∙ ap (λ (rule : Rule). form.own_text ++ space ∷ form.other_text ++ suffix_of rule) rule_is,
      ),
      λ ends. rule_of_end p.rule (without_cr line) form.own_text form.other_text ends.0 form.parts
          (side_ends_in_digit space form.other_side) ends.1,
    )
