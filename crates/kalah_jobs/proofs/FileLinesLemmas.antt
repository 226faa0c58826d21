-- The lines of a file: where the first ends, how many there are, and that no other list of lines fits the bytes.
use Rattle.std.proofs.{Common.{◌≡◌, ◌≢◌, ℕ, ◌+◌, ◌<◌, ◌≤◌, List, [], ◌∷◌, ◌++◌, length, get_or, take, drop, take-append-drop, refl, ap, ◌∙◌, arith, length-drop, inl, inr, append_assoc, length-append, ◌==◌, if◌then◌else◌, All, Some, count_by}, Math.Seq.{take-nil}, lemmas.{Bool.{cases_eq}, List.{take_all, drop_all, drop_more, append-nil, Elements.{All-head, All-tail, All-nil, All-cons, All-pop}, Sums.{sum_by-cons}}}}
use Rattle.std.specs.List.{onto_first}
use Rattle.kalah_jobs.specs.{line_feed, lines_of, HasNoLineFeed, with_line_feeds, ArePieces, AreLines, LinesAreOne}

-- ==== Where the first line of some bytes ends

-- a line feed ends an empty line
pub lines_of-feed : (byte : ℕ) (bytes : List ℕ) → byte ≡ line_feed → lines_of (byte ∷ bytes) ≡ [] ∷ lines_of bytes
unfolding lines_of
lines_of-feed byte bytes is_feed = grind arith

-- any other byte goes to the head of the first line
pub lines_of-byte : (byte : ℕ) (bytes : List ℕ) → byte ≢ line_feed → lines_of (byte ∷ bytes) ≡ onto_first byte (lines_of bytes)
unfolding lines_of
lines_of-byte byte bytes no_feed = grind arith

abbrev pub IsNoFeed : ℕ → Type 0
IsNoFeed byte = byte ≢ line_feed

-- a line feed ends the bytes before it that have none
pub lines_of-ended : (line rest : List ℕ) → HasNoLineFeed line → lines_of (line ++ line_feed ∷ rest) ≡ line ∷ lines_of rest
lines_of-ended [] rest whole = lines_of-feed line_feed rest refl
lines_of-ended (byte ∷ line) rest whole =
    lines_of-byte byte (line ++ line_feed ∷ rest) (All-head IsNoFeed byte line whole)
    ∙ ap (onto_first byte) (lines_of-ended line rest (All-tail IsNoFeed byte line whole))

-- the end ends the bytes before it that have no line feed
pub lines_of-open : (line : List ℕ) → HasNoLineFeed line → line ≢ [] → lines_of line ≡ line ∷ []
unfolding lines_of
lines_of-open [] whole some = absurd (some refl)
lines_of-open (byte ∷ []) whole some = lines_of-byte byte [] (All-head IsNoFeed byte [] whole)
lines_of-open (byte ∷ another ∷ line) whole some =
    lines_of-byte byte (another ∷ line) (All-head IsNoFeed byte (another ∷ line) whole)
    ∙ ap (onto_first byte)
    (lines_of-open (another ∷ line) (All-tail IsNoFeed byte (another ∷ line) whole) (λ e. cc))

-- the first line ends at the first line feed, and what follows it is cut out of the bytes
pub lines_of-cut : (bytes : List ℕ) (i n : ℕ) → i < length bytes → length bytes ≤ n + (i + 1) → get_or bytes i 0 ≡ line_feed
    → HasNoLineFeed (take i bytes) → lines_of bytes ≡ take i bytes ∷ lines_of (take n (drop (i + 1) bytes))
lines_of-cut bytes i n low high is_feed none =
    cc (
      take_all n (drop (i + 1) bytes) (omega (arith, length-drop (i + 1) bytes)),
      take-append-drop i bytes,
      drop_more bytes i 0 low,
      lines_of-ended (take i bytes) (drop (i + 1) bytes) none,
    )

-- no bytes follow a line that is not ended
pub lines_of-last : (bytes : List ℕ) (n : ℕ) → 0 < length bytes → HasNoLineFeed bytes
    → lines_of bytes ≡ bytes ∷ lines_of (take n (drop (length bytes) bytes))
unfolding lines_of
lines_of-last bytes n some none =
    rw (drop_all (length bytes) bytes (omega arith), take-nil n) (lines_of-open bytes none (λ e. omega (arith, ap length e)))

-- what cutting off the first line needs
pub ruleset first_lines = (lines_of-cut, lines_of-last, take_all)

-- an empty file has no line
pub lines_of-empty : (bytes : List ℕ) → length bytes ≡ 0 → lines_of bytes ≡ []
unfolding lines_of
lines_of-empty [] none = refl
lines_of-empty (byte ∷ bytes) none = absurd (omega arith)

-- a byte that goes to the head of a line makes no new line
length-onto_first-same : (byte : ℕ) (lines : List (List ℕ)) → 0 < length lines → length (onto_first byte lines) ≡ length lines
length-onto_first-same byte [] some = absurd (omega arith)
length-onto_first-same byte (line ∷ lines) some = refl

-- one for each line feed before the last byte, and one more
pub length-lines_of : (front : List ℕ) (last : ℕ)
    → length (lines_of (front ++ last ∷ [])) ≡ count_by (λ byte. byte == line_feed) front + 1
unfolding lines_of
length-lines_of [] last = grind arith
length-lines_of (byte ∷ front) last =
    grind (
      arith,
      length-lines_of front last,
      length-onto_first-same byte (lines_of (front ++ last ∷ [])),
      sum_by-cons (λ (b : ℕ). if b == line_feed then 1 else 0) byte front,
    )

-- what counting lines needs
pub ruleset line_numbers = (length-lines_of, lines_of-empty, length-append)

-- what reading lines to the end needs
pub ruleset no_line = (lines_of-empty, append-nil)

-- ==== Bytes have exactly one list of lines

-- ---- the lines of the bytes are lines of them

-- a byte other than a line feed leaves the lines without one
whole_after_byte : (byte : ℕ) (lines : List (List ℕ)) → byte ≢ line_feed → All HasNoLineFeed lines
    → All HasNoLineFeed (onto_first byte lines)
whole_after_byte byte [] no_feed whole = All-cons HasNoLineFeed (byte ∷ []) [] (All-cons IsNoFeed byte [] no_feed (All-nil IsNoFeed)) whole
whole_after_byte byte (line ∷ lines) no_feed whole =
    All-cons HasNoLineFeed (byte ∷ line) lines
    (All-cons IsNoFeed byte line no_feed (All-head HasNoLineFeed line lines whole))
    (All-tail HasNoLineFeed line lines whole)

-- lines before a last one that is not ended
open_lines : {bytes : List ℕ} {lines : List (List ℕ)} (before : List (List ℕ)) (last : List ℕ) → last ≢ []
    → lines ≡ before ++ last ∷ [] → bytes ≡ with_line_feeds before ++ last → ArePieces bytes lines
open_lines before last some pieces_are bytes_are =
    inr (record { before = before; last = last; pieces_are = pieces_are; bytes_are = bytes_are; some_bytes = some })

-- a byte before lines stands in the first, or in one of its own
parts_after_byte : (byte : ℕ) (bytes : List ℕ) (lines : List (List ℕ)) → ArePieces bytes lines
    → ArePieces (byte ∷ bytes) (onto_first byte lines)
parts_after_byte byte bytes [] (inl closed) = open_lines [] (byte ∷ []) (λ e. cc) refl (ap (byte ∷◌) closed)
parts_after_byte byte bytes (line ∷ lines) (inl closed) = inl (ap (byte ∷◌) closed)
parts_after_byte byte bytes lines (inr unended) = go unended.before unended.pieces_are unended.bytes_are
  where
    go : (before : List (List ℕ)) → lines ≡ before ++ unended.last ∷ [] → bytes ≡ with_line_feeds before ++ unended.last
        → ArePieces (byte ∷ bytes) (onto_first byte lines)
    go [] pieces_are bytes_are =
        open_lines [] (byte ∷ unended.last) (λ e. cc) (ap (onto_first byte) pieces_are) (ap (byte ∷◌) bytes_are)
    go (line ∷ before) pieces_are bytes_are =
        open_lines ((byte ∷ line) ∷ before) unended.last unended.some_bytes (ap (onto_first byte) pieces_are) (ap (byte ∷◌) bytes_are)

-- a line feed before lines is an empty line
parts_after_feed : (bytes : List ℕ) (lines : List (List ℕ)) → ArePieces bytes lines → ArePieces (line_feed ∷ bytes) ([] ∷ lines)
parts_after_feed bytes lines (inl closed) = inl (ap (line_feed ∷◌) closed)
parts_after_feed bytes lines (inr unended) =
    open_lines ([] ∷ unended.before) unended.last unended.some_bytes (ap ([] ∷◌) unended.pieces_are) (ap (line_feed ∷◌) unended.bytes_are)

are_lines_of : (bytes : List ℕ) → AreLines bytes (lines_of bytes)
unfolding lines_of
are_lines_of [] = record { whole = All-nil HasNoLineFeed; parts = inl refl }
are_lines_of (byte ∷ bytes) =
    let lines = lines_of bytes in
    let rest = are_lines_of bytes in
    elim (cases_eq byte line_feed) [
      | inl is_feed ↦
          rw (lines_of-feed byte bytes is_feed, is_feed)
          (record {
            whole = All-cons HasNoLineFeed [] lines (All-nil IsNoFeed) rest.whole;
            parts = parts_after_feed bytes lines rest.parts;
          })
      | inr no_feed ↦
          rw (lines_of-byte byte bytes no_feed)
          (record { whole = whole_after_byte byte lines no_feed rest.whole; parts = parts_after_byte byte bytes lines rest.parts })
    ]

-- ---- and no others are

-- pieces that each end in a line feed are lines, before those of the rest
lines_of-feeds : (pieces : List (List ℕ)) (rest : List ℕ) → All HasNoLineFeed pieces
    → lines_of (with_line_feeds pieces ++ rest) ≡ pieces ++ lines_of rest
lines_of-feeds [] rest whole = refl
lines_of-feeds (piece ∷ pieces) rest whole =
    grind (
      arith,
      append_assoc,
      lines_of-ended piece (with_line_feeds pieces ++ rest) (All-head HasNoLineFeed piece pieces whole),
      lines_of-feeds pieces rest (All-tail HasNoLineFeed piece pieces whole),
    )

-- no other pieces are the lines of the bytes
no_others : (bytes : List ℕ) (pieces : List (List ℕ)) → AreLines bytes pieces → pieces ≡ lines_of bytes
unfolding lines_of
no_others bytes pieces are = elim are.parts [
  | inl closed ↦ grind (arith, append-nil, lines_of-feeds pieces [] are.whole)
  | inr unended ↦
      let whole = All-pop HasNoLineFeed pieces unended.before (Some unended.last) unended.pieces_are are.whole in
      grind (arith, lines_of-feeds unended.before unended.last whole.0, lines_of-open unended.last whole.1 unended.some_bytes)
]

pub lines_are_one : LinesAreOne
lines_are_one = record { some = are_lines_of; one = no_others }
