-- How positions, moves and answers are put together as text.
use Rattle.std.proofs.Common.{SFits, of_z, to_z, w16, w32, ℕ, ◌<◌, ◌≤◌, ◌^◌, length, arith, ◌≡◌, zero, suc, List, ◌++◌, IsUtf8}
use Rattle.std.proofs.Common.{sym, refl, ◌+◌, [], ap, ◌∙◌, take, drop, append_assoc, ◌∷◌, map, get_or, flat_map, cond, ◌==◌}
use Rattle.std.proofs.Common.{append-nil, add-one, Bool, false, codes, ◌-◌, filter, length-append, replicate, Contains, ℤ, pos, negsuc}
use Rattle.std.proofs.Common.{slice_get, Some, drop_of_length-le}
use Rattle.std.proofs.lemmas.{Bool.{cond_both}, Fmt.{length-decimal-le, IsAscii-decimal, length_signed_le}, Int.{ints, to_z-of_z}}
use Rattle.std.proofs.lemmas.List.{length-take-le, length-drop, length-replicate, get_or-replicate, get_or_past, drop_at, drop-drop, drop_more}
use Rattle.std.proofs.lemmas.List.Elements.{All-head, All-tail, All-map, Contains-get_or}
use Rattle.std.proofs.lemmas.Str.{IsUtf8-append, IsUtf8-from_ascii}
use Rattle.std.specs.{Fmt.{decimal, signed_decimal}, List.{join_with_byte, range_with_len}}
use Rattle.kalah_rules.specs.{Play.{legal_houses}, Position.{Position, side_length, IsWithinLimits, IsMarginInRange, is_over}}
use Rattle.kalah_solve.{proofs.SolverLemmas.{move_value_small}, specs.Solver.MoveValues.{IsMoveValue, move_value, values_of}}
use Rattle.kalah_jobs.specs.{line_feed, comma, space, side_text, Player, Answer, Taken, Mover, Other, MoveValue, in_one_line, answer_line, joined_text, place_text, value_text, values_text, HasOneText, column_text, column_width, empty_columns, houses_of, AreMoveValues, AscendFrom, value_column, value_columns, declared.writing.answer.Answer.TheVariants.{Steps}}
use Rattle.kalah_jobs.proofs.ListLemmas.{items_from}

-- ==== How long the parts of lines are at most

pub u64_length : (n : ℕ) → n < 2 ^ 64 → length (decimal n) ≤ 20
u64_length n low = length-decimal-le 20 n (omega arith) (omega arith) low

pub u32_length : (n : ℕ) → n < 2 ^ 32 → length (decimal n) ≤ 10
u32_length n low = length-decimal-le 10 n (omega arith) (omega arith) (omega arith)

pub u8_length : (n : ℕ) → n < 2 ^ 8 → length (decimal n) ≤ 3
u8_length n low = length-decimal-le 3 n (omega arith) (omega arith) (omega arith)

-- ==== What is put together on the stack is text

-- a piece of text before a text
pub piece_before : (text piece old : List ℕ) → text ≡ piece ++ old → IsUtf8 piece → IsUtf8 old → IsUtf8 text
piece_before text piece old text_is piece_utf8 old_utf8 = rw text_is (IsUtf8-append piece old piece_utf8 old_utf8)

pub number_is_text : (n : ℕ) → n < 2 ^ 64 → IsUtf8 (decimal n)
number_is_text n low = IsUtf8-from_ascii (decimal n) (IsAscii-decimal n low)

pub blanks_are_text : (n : ℕ) → IsUtf8 (replicate n space)
blanks_are_text n = IsUtf8-from_ascii (replicate n space) (λ i. grind (arith, get_or-replicate, get_or_past, length-replicate))

-- blanks were put in front of a text that the bytes end with
pub blanks_before : {most : ℕ} (bytes : List ℕ) {part old : List ℕ} (start n : ℕ) → length bytes ≡ most → start ≤ most
    → drop start bytes ≡ old → n + length old ≤ most → part ≡ replicate (length (take (start - (start - n)) (drop (start - n) bytes))) space
    → drop (start - n) (take (start - n) bytes ++ (part ++ drop (start - (start - n)) (drop (start - n) bytes)))
    ≡ replicate n space ++ old
blanks_before bytes start n many low old_is room blanks_are =
    let back : start - (start - n) ≡ n = omega (arith, length-drop start bytes, ap length old_is) in
    let end : start - n + n ≡ start = omega arith in
    let blanks : length (take n (drop (start - n) bytes)) ≡ n = length-take-le n _ (omega (arith, length-drop (start - n) bytes)) in
    drop_at _ _ (start - n) (length-take-le (start - n) bytes (omega arith))
    ∙ rw (blanks_are, back, blanks, drop-drop n (start - n) bytes, end, old_is) refl

-- ==== The lines of several moves

-- what stands at a place of the legal houses is legal
pub move_is_legal : {legal moves : List ℕ} (i : ℕ) {h : ℕ} → moves ≡ legal → i < length moves → h ≡ get_or moves i 0 → Contains legal h
move_is_legal {legal} {moves} i moves_are within h_is =
    rw (h_is, ← moves_are) (Contains-get_or moves i 0 within)

suc_is_not_zero : (i : ℕ) → (suc i == 0) ≡ false
suc_is_not_zero i = grind arith

-- the text of each number, joined with the separator between any two
module _ (joined : List ℕ → List ℕ) (text : ℕ → List ℕ) (separator : List ℕ) (none : joined [] ≡ [])
    (one : (x : ℕ) → joined (x ∷ []) ≡ text x)
    (more : (x y : ℕ) (xs : List ℕ) → joined (x ∷ y ∷ xs) ≡ text x ++ (separator ++ joined (y ∷ xs))) where
  -- one text more comes after the separator, unless it is the first
  one_more_joined : (xs : List ℕ) (i : ℕ) → i < length xs
      → joined (take (i + 1) xs) ≡ joined (take i xs) ++ (cond (i == 0) [] separator ++ text (get_or xs i 0))
  one_more_joined [] i within = absurd (omega arith)
  one_more_joined (x ∷ xs) zero within = rw (none, one) refl
  one_more_joined (x ∷ []) (suc i) within = absurd (omega arith)
  one_more_joined (x ∷ y ∷ xs) (suc zero) within = rw (more, one, one) refl
  one_more_joined (x ∷ y ∷ xs) (suc (suc i)) within =
      let rest = rw add-one at (one_more_joined (y ∷ xs) (suc i) (omega arith)) in
      rw (add-one, more, more) (simp (rest, suc_is_not_zero, append_assoc))

module _ (place : List ℕ) (text : ℕ → List ℕ) where
  -- the lines of moves, with a line feed between any two
  abbrev pub joined_lines : List ℕ → List ℕ
  joined_lines moves = join_with_byte line_feed (map (place ++◌) (map text moves))

  -- lines with a line feed between any two, and one at the end, are lines that end in one each
  pub lines_end_in_feeds : (moves : List ℕ) → 0 < length moves
      → joined_lines moves ++ line_feed ∷ [] ≡ flat_map (λ h. (place ++ text h) ++ line_feed ∷ []) moves
  lines_end_in_feeds [] some = absurd (omega arith)
  lines_end_in_feeds (h ∷ []) some = sym (append-nil ((place ++ text h) ++ line_feed ∷ []))
  lines_end_in_feeds (h ∷ k ∷ moves) some = simp (append_assoc, lines_end_in_feeds (k ∷ moves) (omega arith))

  -- one line more comes after a line feed, unless it is the first
  pub one_line_more : (moves : List ℕ) (i : ℕ) → i < length moves → joined_lines (take (i + 1) moves) ≡ joined_lines (take i moves) ++
      (cond (i == 0) [] (line_feed ∷ []) ++ (place ++ text (get_or moves i 0)))
  one_line_more = one_more_joined joined_lines (λ h. place ++ text h) (line_feed ∷ []) refl (λ h. refl) (λ h k moves. refl)

-- ==== Texts joined in one line

module _ (text : ℕ → List ℕ) where
  -- the texts of moves
  abbrev pub texts_in_line : List ℕ → List ℕ
  texts_in_line moves = in_one_line (map text moves)

  -- one text more comes after `; `, unless it is the first
  pub one_text_more : (moves : List ℕ) (i : ℕ) → i < length moves
      → texts_in_line (take (i + 1) moves) ≡ texts_in_line (take i moves) ++ (cond (i == 0) [] (codes "; ") ++ text (get_or moves i 0))
  one_text_more = one_more_joined texts_in_line text (codes "; ") refl (λ h. refl) (λ h k moves. refl)

-- ==== Texts with a byte between any two, put together from the last on

-- an answer that begins with its margin
pub from_margin : (answer : Answer) (margin : ℤ) (rest old : List ℕ) {text all : List ℕ} → SFits w32 margin
    → joined_text answer ≡ signed_decimal margin ++ rest → text ≡ rest ++ old
    → all ≡ signed_decimal (to_z w32 (of_z w32 margin)) ++ text → all ≡ joined_text answer ++ old
from_margin answer margin rest old fits joined_is text_is all_is =
    rw (all_is, text_is, joined_is, to_z-of_z w32 margin fits) (simp append_assoc)

module _ (values : List MoveValue) (i : ℕ) (v : MoveValue) (value_is : slice_get values i ≡ Some v) where
  -- the last value has nothing after it
  pub last_value : i + 1 ≡ length values → values_text (drop i values) ≡ value_text v
  last_value many = rw (items_from values i v value_is, drop_of_length-le values {i = i + 1} (omega arith)) refl

  -- any other has a space and the values after it
  pub value_before : i + 1 < length values → values_text (drop i values) ≡ value_text v ++ space ∷ values_text (drop (i + 1) values)
  value_before within = rw (items_from values i v value_is, drop_more values (i + 1) v within) refl

-- a side with the number at place i from those after it
pub side_before : (numbers : List ℕ) (store i : ℕ) {n : ℕ} (old : List ℕ) {others text all : List ℕ} → i + 1 < length numbers
    → n ≡ get_or numbers (i + 1 - 1) 0 → others ≡ side_text (drop (i + 1) numbers) store ++ old → text ≡ comma ∷ others
    → all ≡ decimal n ++ text → all ≡ side_text (drop i numbers) store ++ old
side_before numbers store i old within n_is others_are text_is all_is =
    let same : i + 1 - 1 ≡ i = omega arith in
    rw (all_is, text_is, others_are, drop_more numbers i 0 (omega arith), drop_more numbers (i + 1) 0 within, n_is, same)
    (simp append_assoc)

-- both players have as many houses
pub length-houses_of : (player : Player) (p : Position) → IsWithinLimits p → length (houses_of player p) ≡ side_length p
length-houses_of Mover p limits = refl
length-houses_of Other p limits = limits.same_side

-- ==== Columns of numbers: one more in front

-- n columns of numbers, from column `from` on
abbrev pub columns : (ℕ → ℕ) → ℕ → ℕ → List ℕ
columns f from n = flat_map (λ column. column_text (f column)) (range_with_len from n)

-- one more column in front of those that stand there
pub columns_before : (f : ℕ → ℕ) (m column : ℕ) {n : ℕ} (old : List ℕ) {before after : List ℕ} → n ≡ f column
    → 0 < column → column ≤ m → before ≡ columns f (column + 1) (m - column) ++ old → after ≡ column_text n ++ before
    → after ≡ columns f (column - 1 + 1) (m - (column - 1)) ++ old
columns_before f m column old n_is low high before_is after_is =
    let place : column - 1 + 1 ≡ column = omega arith in
    let count : m - (column - 1) ≡ suc (m - column) = omega arith in
    rw (place, count) (after_is ∙ simp (n_is, before_is, append_assoc))

-- ==== The lines of answers that have one text

-- the answer line of an answer that isn't of steps is the place, and then the answer
pub one_line_parts : (name : List ℕ) (line : ℕ) (a : Answer) → HasOneText a →
    answer_line name (record { line = line; answer = a }) ≡ place_text name line ++ joined_text a
one_line_parts name line (Steps p) one = absurd one
one_line_parts name line a one = refl

-- it is put together from its end, before what follows it
pub line_before : (name : List ℕ) (taken : Taken) (after words text : List ℕ) → HasOneText taken.answer
    → words ≡ joined_text taken.answer ++ after → text ≡ codes ":" ++ (decimal (taken.line + 1) ++ (codes " " ++ words))
    → name ++ text ≡ answer_line name taken ++ after
line_before name taken after words text one words_are text_is =
    rw (text_is, words_are, one_line_parts name taken.line taken.answer one) (simp append_assoc)

-- ==== Values below the houses of a picture

value_length : (v : ℤ) → IsMarginInRange v → length (signed_decimal v) ≤ 4
value_length (pos n) small = length_signed_le 3 (pos n) (omega (arith, ints, small.high)) (omega (arith, ints, small.high))
value_length (negsuc n) small = length_signed_le 3 (negsuc n) (omega (arith, ints, small.low)) (omega (arith, ints, small.low))

-- a value is put in front of a text, from its bits, and then blanks
module _ {v z : ℤ} {end len : ℕ} (old : List ℕ) {text : List ℕ} (small : IsMarginInRange v) (z_is : z ≡ to_z w16 (of_z w16 v))
    (text_is : text ≡ signed_decimal (to_z w32 (of_z w32 z)) ++ old) (end_is : end ≡ length old) (len_is : len ≡ length text) where
  -- the value is read back from its bits, and from those that it is widened to
  same_value : to_z w32 (of_z w32 z) ≡ v
  same_value = ap (λ x. to_z w32 (of_z w32 x)) (z_is ∙ to_z-of_z w16 v (omega (arith, ints, small.low, small.high)))
      ∙ to_z-of_z w32 v (omega (arith, ints, small.low, small.high))

  -- the text is longer by the value
  length_now : length text ≡ length (signed_decimal v) + length old
  length_now = rw (text_is, same_value) (length-append (signed_decimal v) old)

  -- the value fits its column
  pub value_room : len ≤ end + column_width
  value_room = omega (arith, length_now, value_length v small)

  -- with the blanks before it, it fills the column
  pub value_longer : (n : ℕ) → n ≡ end + column_width - len + length text → n ≡ column_width + length old
  value_longer n n_is = omega (arith, length_now, value_length v small)

  -- it stands at the right of the column
  pub value_at_right : (all : List ℕ) → all ≡ replicate (end + column_width - len) space ++ text → all ≡ value_column v ++ old
  value_at_right all all_is =
      let blanks : end + column_width - len ≡ column_width - length (signed_decimal v) = omega (arith, length_now) in
      rw (all_is, blanks, text_is, same_value) (simp append_assoc)

-- the column of a value before those after it
pub column_before : (filled : ℕ) (v : MoveValue) (vs : List MoveValue) (old : List ℕ) {columns longer after : List ℕ}
    → columns ≡ value_columns (v.house + 1) vs ++ old → longer ≡ value_column v.value ++ columns
    → after ≡ empty_columns (v.house - filled) ++ longer → after ≡ value_columns filled (v ∷ vs) ++ old
column_before filled v vs old columns_are value_is after_is = after_is ∙ simp (value_is, columns_are, append_assoc)

-- what is known of a value, and of those after it
pub record IsNextValue (v : MoveValue) (rest : List MoveValue) : Type 0 where
  pub value : IsMoveValue v
  pub ascend : AscendFrom (v.house + 1) rest
  pub small : AreMoveValues rest

-- this is known of the value at place i
pub next_value : (filled : ℕ) (values : List MoveValue) (i : ℕ) {v : MoveValue} → slice_get values i ≡ Some v
    → AscendFrom filled (drop i values) → AreMoveValues (drop i values) → IsNextValue v (drop (i + 1) values)
next_value filled values i {v} value_is ascend small =
    let front = items_from values i v value_is in
    let rest = drop (i + 1) values in
    let smaller = rw front at small in
    record {
      value = All-head IsMoveValue v rest smaller;
      ascend = (rw front at ascend).1;
      small = All-tail IsMoveValue v rest smaller;
    }

-- ---- the values of a position have columns

-- values that ascend from a higher house ascend from a lower one
ascend_later : (low high : ℕ) (vs : List MoveValue) → low ≤ high → AscendFrom high vs → AscendFrom low vs
ascend_later low high [] within ascend = tt
ascend_later low high (v ∷ vs) within ascend = (omega (arith, ascend.0), ascend.1)

-- the values of the houses that are kept ascend by their houses
kept_ascend : (f : ℕ → Bool) (p : Position) (from n : ℕ) → AscendFrom from (map (move_value p) (filter f (range_with_len from n)))
kept_ascend f p from zero = tt
kept_ascend f p from (suc n) =
    let later = kept_ascend f p (from + 1) n in
    cond_both (f from) _ _ (λ houses. AscendFrom from (map (move_value p) houses)) (λ kept. (omega arith, later))
    (λ left_out. ascend_later from (from + 1) _ (omega arith) later)

values_ascend : (p : Position) → AscendFrom 1 (values_of p)
values_ascend p = cond_both (is_over p) _ _ (λ houses. AscendFrom 1 (map (move_value p) houses)) (λ over. tt)
    (λ going. kept_ascend _ p 1 (side_length p))

-- the values of a position have columns
pub have_columns : (p : Position) (values : List MoveValue) → values ≡ values_of p → AscendFrom 0 values
have_columns p values values_are = rw values_are (ascend_later 0 1 (values_of p) (omega arith) (values_ascend p))

-- they are small
pub are_small : (p : Position) (values : List MoveValue) → values ≡ values_of p → IsWithinLimits p → AreMoveValues values
are_small p values values_are limits = rw values_are (All-map IsMoveValue (move_value p) (legal_houses p)
    (λ i d within. move_value_small limits (Contains-get_or (legal_houses p) i d within)))
