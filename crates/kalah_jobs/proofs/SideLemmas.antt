-- Numbers and sides of a line: what writes them is read, and what is read is written.
use Rattle.std.proofs.{Common.{◌≡◌, ℕ, ◌+◌, ◌-◌, ◌<◌, ◌≤◌, inl, inr, true, List, [], ◌∷◌, ◌++◌, length, Some, refl, sym, ap, ◌∙◌, length-append, arith, zero, suc, pred, ◌==◌, Bool, cond, Option, None, append_assoc, eqb-true}, lemmas.{Bool.{cases_Bool, cond-true, cond-false, Decides.{nat_tests}}, Fmt.{decimal_digit, decimal_step}, Option.{cond_some}}}
use Rattle.std.specs.{Char.{is_ascii_digit, IsAsciiDigit}, Prelude.{decimal, ◌&&◌, nat_lt, ⊤}}
use Rattle.kalah_jobs.specs.{IsNumber, zero_digit, comma, slash, AreHouses, IsSide, number_from, number_at, ◌>>=◌, SideRead, store_at, after_house, side_from, side_at, AreKept, declared.line.side.Side.{Side}}

-- ==== What writes a number, what it is read as, and its text

-- the bytes are a text of the number, and what follows it
pub record WritesNumber (bytes : List ℕ) (n : ℕ) (rest : List ℕ) : Type 0 where
  pub text : List ℕ
  pub parts : bytes ≡ text ++ rest
  pub number : IsNumber text n

-- the digits at the front of the bytes write the number that is read of them
digits_written : (first : ℕ) (rest : List ℕ) → IsAsciiDigit first
    → WritesNumber (first ∷ rest) (number_from (first - zero_digit) rest).0 (number_from (first - zero_digit) rest).1
digits_written first [] digit = record { text = first ∷ []; parts = refl; number = (digit, refl) }
digits_written first (byte ∷ rest) digit = elim (cases_Bool (nat_lt 0 (first - zero_digit) && is_ascii_digit byte)) [
  | inl two ↦
      rw two (record { text = first ∷ byte ∷ []; parts = refl; number = grind (arith, nat_tests) })
  | inr single ↦ rw single (record { text = first ∷ []; parts = refl; number = (digit, refl) })
]

-- a number that is read is written at the front of the bytes
number_is_written : (bytes : List ℕ) (found : ℕ × List ℕ) → number_at bytes ≡ Some found → WritesNumber bytes found.0 found.1
number_is_written [] found read = cc
number_is_written (first ∷ rest) found read =
    let parts = cond_some (is_ascii_digit first) (number_from (first - zero_digit) rest) found read in
    let digit : IsAsciiDigit first = grind (arith, nat_tests, parts.0) in
    rw parts.1 at (digits_written first rest digit)

-- no digit follows a number that ends before these bytes
abbrev pub EndsNumber : List ℕ → Type 0
EndsNumber [] = ⊤
EndsNumber (byte ∷ rest) = ¬ IsAsciiDigit byte

-- a number that is written is read, if no digit follows
number_is_read : (text : List ℕ) (n : ℕ) (rest : List ℕ) → IsNumber text n → EndsNumber rest
    → number_at (text ++ rest) ≡ Some (n, rest)
number_is_read text n rest written ends = grind (arith, nat_tests)

-- a text that writes a number isn't empty
number_has_bytes : (text : List ℕ) (n : ℕ) → IsNumber text n → 0 < length text
number_has_bytes text n written = grind arith

-- the rest after a number is shorter
rest_is_shorter : (bytes : List ℕ) (found : ℕ × List ℕ) → number_at bytes ≡ Some found → length found.1 < length bytes
rest_is_shorter bytes found read =
    let written = number_is_written bytes found read in
    omega (arith, ap length written.parts, length-append written.text found.1, number_has_bytes written.text found.0 written.number)

-- ---- the text of a number

pub number_has_one_text : (text : List ℕ) (n : ℕ) → IsNumber text n → text ≡ decimal n
number_has_one_text text n written = grind (arith, decimal_digit, decimal_step)

pub number_at_most_99 : (text : List ℕ) (n : ℕ) → IsNumber text n → n ≤ 99
number_at_most_99 text n written = grind arith

pub decimal_writes_number : (n : ℕ) → n ≤ 99 → IsNumber (decimal n) n
decimal_writes_number n low = grind (arith, decimal_digit, decimal_step)

-- ==== What writes a side, and how it is read, house by house

-- ---- steps of a reading

-- a first step succeeds, and with its value a second one
pub record BothSucceed {A B : Type 0} (step : Option A) (next : A → Option B) (result : B) : Type 0 where
  pub value : A
  pub first : step ≡ Some value
  pub second : next value ≡ Some result

-- if two steps succeed together, both do
pub both_succeed : {A B : Type 0} (step : Option A) (next : A → Option B) (result : B) → (step >>= next) ≡ Some result
    → BothSucceed step next result
both_succeed None next result both = cc
both_succeed (Some value) next result both = record { value = value; first = refl; second = both }

-- a step that stands under a test succeeds only if the test passes
pub passes_and_succeeds : {A : Type 0} (test : Bool) (step : Option A) (result : A) → cond test step None ≡ Some result
    → (test ≡ true) × (step ≡ Some result)
passes_and_succeeds test step result both = grind arith

-- ---- what is read is written

-- the bytes go on with more houses of the side that was found, its store and the rest
pub record WritesSide (houses bytes : List ℕ) (found : SideRead) : Type 0 where
  pub text : List ℕ
  pub more : List ℕ
  pub parts : bytes ≡ text ++ found.rest
  pub houses_are : found.houses ≡ houses ++ more
  pub side : IsSide text more found.store

-- a house, a comma and other houses are houses
pub house_before_others : (house_text others_text : List ℕ) (n : ℕ) (others : List ℕ) → IsNumber house_text n
    → AreHouses others_text others → AreHouses (house_text ++ comma ∷ others_text) (n ∷ others)
house_before_others house_text others_text n [] number written = absurd written
house_before_others house_text others_text n (m ∷ others) number written = record {
  house_text = house_text;
  others_text = others_text;
  parts = refl;
  house_written = number;
  others_written = written;
}

module _ {houses bytes : List ℕ} {n : ℕ} where
  -- a house, a slash and a store write the end of a side
  store_written : {rest : List ℕ} {found : SideRead} → WritesNumber bytes n (slash ∷ rest)
      → store_at (houses ++ n ∷ []) rest ≡ Some found → WritesSide houses bytes found
  store_written {rest} {found} house store_read =
      let with_store : ℕ × List ℕ → SideRead = λ store. record { houses = houses ++ n ∷ []; store = store.0; rest = store.1 } in
      let read = both_succeed (number_at rest) (λ store. Some (with_store store)) found store_read in
      let store = number_is_written rest read.value read.first in
      let found_is : with_store read.value ≡ found = cc read.second in
      rw (← found_is) (record {
        text = house.text ++ slash ∷ store.text;
        more = n ∷ [];
        parts = cc (house.parts, store.parts, append_assoc house.text (slash ∷ store.text) read.value.1);
        houses_are = refl;
        side = record {
          houses_text = house.text;
          store_text = store.text;
          parts = refl;
          houses_written = house.number;
          store_written = store.number;
        };
      })

  -- a house, a comma and the rest of a side write the rest of a side
  others_written : {rest : List ℕ} {found : SideRead} → WritesNumber bytes n (comma ∷ rest)
      → WritesSide (houses ++ n ∷ []) rest found → WritesSide houses bytes found
  others_written {rest} {found} house others = record {
    text = house.text ++ comma ∷ others.text;
    more = n ∷ others.more;
    parts = house.parts ∙ simp (others.parts, append_assoc);
    houses_are = others.houses_are ∙ simp append_assoc;
    side = record {
      houses_text = house.text ++ comma ∷ others.side.houses_text;
      store_text = others.side.store_text;
      parts = simp (others.side.parts, append_assoc);
      houses_written =
          house_before_others house.text others.side.houses_text n others.more house.number others.side.houses_written;
      store_written = others.side.store_written;
    };
  }

  -- what is read after a house is its store, or a comma and more houses
  house_written : (i : ℕ) (rest : List ℕ) (found : SideRead) → WritesNumber bytes n rest →
      ((next : List ℕ) → side_from i (houses ++ n ∷ []) next ≡ Some found → WritesSide (houses ++ n ∷ []) next found) →
      after_house (store_at (houses ++ n ∷ [])) (side_from i (houses ++ n ∷ [])) rest ≡ Some found → WritesSide houses bytes found
  house_written i [] found house further after_house = cc
  house_written i (mark ∷ rest) found house further after_house = elim (cases_Bool (mark == slash)) [
    | inl stored ↦
        let is_slash = eqb-true mark slash stored in
        store_written (rw is_slash at house) (sym (cond-true (mark == slash) _ _ stored) ∙ after_house)
    | inr other ↦
        let read = passes_and_succeeds (mark == comma) (side_from i (houses ++ n ∷ []) rest) found
        (sym (cond-false (mark == slash) _ _ other) ∙ after_house) in
        let is_comma = eqb-true mark comma read.0 in
        others_written (rw is_comma at house) (further rest read.1)
  ]

-- a side that is read from some byte on is written there
side_from_written : (i : ℕ) (houses bytes : List ℕ) (found : SideRead) → side_from i houses bytes ≡ Some found
    → WritesSide houses bytes found
side_from_written zero houses bytes found side_read = cc
side_from_written (suc i) houses bytes found side_read =
    let after = λ (house : ℕ × List ℕ).
    after_house (store_at (houses ++ house.0 ∷ [])) (side_from i (houses ++ house.0 ∷ [])) house.1 in
    let read = both_succeed (number_at bytes) after found side_read in
    house_written i read.value.1 found (number_is_written bytes read.value read.first)
    (λ next. side_from_written i (houses ++ read.value.0 ∷ []) next found) read.second

-- a side that is read is written at the front of the bytes
pub side_is_written : (bytes : List ℕ) (found : SideRead) → side_at bytes ≡ Some found → WritesSide [] bytes found
unfolding side_at
side_is_written bytes found side_read = side_from_written (length bytes) [] bytes found side_read

-- ---- what is written is read

module _ (store_text : List ℕ) (store : ℕ) (following : List ℕ) (stored : IsNumber store_text store) (ends : EndsNumber following)
  where
    abbrev ending : List ℕ
    ending = slash ∷ (store_text ++ following)

    -- houses and a store that are written are read, after the houses so far
    houses_are_read : (text more : List ℕ) → AreHouses text more → (i : ℕ) (houses : List ℕ) → length text ≤ i →
        side_from i houses (text ++ ending)
        ≡ Some (record { houses = houses ++ more; store = store; rest = following })
    houses_are_read text [] written i houses few = absurd written
    houses_are_read text (n ∷ more) written zero houses few = absurd (omega (arith, some_bytes text n more written))
      where
        some_bytes : (t : List ℕ) (m : ℕ) (others : List ℕ) → AreHouses t (m ∷ others) → 0 < length t
        some_bytes t m [] written = number_has_bytes t m written
        some_bytes t m (k ∷ others) written =
            omega (arith, ap length written.parts, length-append written.house_text (comma ∷ written.others_text))
    houses_are_read text (n ∷ []) written (suc i) houses few =
        rw (
          number_is_read text n ending written (λ digit. omega arith),
          number_is_read store_text store following stored ends,
        ) refl
    houses_are_read text (n ∷ m ∷ more) written (suc i) houses few =
        let rest = written.others_text ++ ending in
        let cut : text ++ ending ≡ written.house_text ++ comma ∷ rest = simp (written.parts, append_assoc) in
        let short : length written.others_text ≤ i =
        omega (arith, ap length written.parts, length-append written.house_text (comma ∷ written.others_text)) in
        rw (cut, number_is_read written.house_text n (comma ∷ rest) written.house_written (λ digit. omega arith))
        (houses_are_read written.others_text (m ∷ more) written.others_written i (houses ++ n ∷ []) short
        ∙ ap (λ (all : List ℕ). Some (record { houses = all; store = store; rest = following })) (append_assoc houses (n ∷ []) (m ∷ more)))

-- a side that is written is read, if no digit follows
pub side_is_read : {text houses : List ℕ} {store : ℕ} (following : List ℕ) → IsSide text houses store → EndsNumber following →
    side_at (text ++ following) ≡ Some (record { houses = houses; store = store; rest = following })
unfolding side_at
side_is_read {text} {houses} {store} following side ends =
    let parts : text ++ following ≡ side.houses_text ++ slash ∷ (side.store_text ++ following) = simp (side.parts, append_assoc) in
    rw parts (houses_are_read side.store_text store following side.store_written ends side.houses_text houses side.houses_written
    _ [] (omega (arith, length-append side.houses_text (slash ∷ (side.store_text ++ following)))))

-- the rest after a side isn't longer
pub rest_is_no_longer : (bytes : List ℕ) {found : SideRead} → side_at bytes ≡ Some found → length found.rest ≤ length bytes
rest_is_no_longer bytes {found} side_read =
    let side = side_is_written bytes found side_read in
    omega (arith, ap length side.parts, length-append side.text found.rest)

-- a side has a house
pub houses_are_some : (text houses : List ℕ) → AreHouses text houses → 1 ≤ length houses
houses_are_some text [] written = absurd written
houses_are_some text (n ∷ houses) written = omega arith

-- ---- house by house

-- the houses so far are kept in the side, and the side at the front of the bytes goes on in the rest
pub record IsReadSoFar (bytes : List ℕ) (side : Side) (rest : List ℕ) : Type 0 where
  pub houses : List ℕ
  pub steps : ℕ
  pub room : side.left_out + length rest ≤ length bytes
  pub enough : length rest ≤ steps
  pub are_kept : AreKept houses side.kept side.left_out
  pub goes_on : side_at bytes ≡ side_from steps houses rest

-- before the first house no house is kept
pub read_at_start : (bytes : List ℕ) (side : Side) → AreKept [] side.kept side.left_out → side.left_out ≡ 0 → IsReadSoFar bytes side bytes
unfolding side_at
read_at_start bytes side are_kept none = record {
  houses = [];
  steps = length bytes;
  room = omega arith;
  enough = omega arith;
  are_kept = are_kept;
  goes_on = refl;
}

-- a number follows, the next house
module _ {bytes : List ℕ} {side : Side} {rest : List ℕ} {n : ℕ} {after : List ℕ} (so_far : IsReadSoFar bytes side rest)
    (house : number_at rest ≡ Some (n, after)) where
  abbrev houses : List ℕ
  houses = so_far.houses ++ n ∷ []

  -- the side goes on with what follows this house
  goes_on_after : side_at bytes ≡ after_house (store_at houses) (side_from (pred so_far.steps) houses) after
  goes_on_after =
      let shorter = rest_is_shorter rest (n, after) house in
      grind (arith, so_far.goes_on, so_far.enough)

  -- if a slash and a number follow it, the side ends with that store
  pub store_follows : {more following : List ℕ} {store : ℕ} → after ≡ slash ∷ more → number_at more ≡ Some (store, following) →
      side_at bytes ≡ Some (record { houses = houses; store = store; rest = following })
  store_follows slash_next stored = goes_on_after ∙ rw (slash_next, stored) refl

  -- if a slash and no number follow it, there is no side
  pub no_store_follows : {more : List ℕ} → after ≡ slash ∷ more → number_at more ≡ None → side_at bytes ≡ None
  no_store_follows slash_next no_number = goes_on_after ∙ rw (slash_next, no_number) refl

  -- if a comma follows it, more houses are taken
  pub house_follows : {new : Side} {more : List ℕ} → after ≡ comma ∷ more → AreKept houses new.kept new.left_out
      → new.left_out ≤ side.left_out + 1 → IsReadSoFar bytes new more
  house_follows {new} {more} comma_next are_kept one = record {
    houses = houses;
    steps = pred so_far.steps;
    room = omega (arith, so_far.room, shorter, ap length comma_next);
    enough = omega (arith, so_far.enough, shorter, ap length comma_next);
    are_kept = are_kept;
    goes_on = goes_on_after ∙ rw comma_next refl;
  }
    where
      shorter : length after < length rest
      shorter = rest_is_shorter rest (n, after) house
