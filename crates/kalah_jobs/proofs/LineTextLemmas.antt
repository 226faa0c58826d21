-- The text of a position is the line that writes it, and is read back.
use Rattle.std.proofs.{Common.{◌≡◌, ℕ, ◌≤◌, List, [], ◌∷◌, ◌++◌, length, refl, arith, Result, Ok, Err, append-nil, codes, length-append, ◌*◌, lit<, decimal, sum, IfOk, IfErr}, lemmas.{Bool.Decides.{nat_tests}, Fmt.{length-decimal-le}, List.Sums.{sum_by-cons}}}
use Rattle.kalah_rules.specs.{Limits.{most_houses, most_in_store}, Position.{Position, IsWithinLimits}}
use Rattle.kalah_jobs.specs.{most_line_bytes, IsNumber, slash, IsSide, space, suffix_of, without_cr, Reads, HasFault, comma, AreHouses, listed, side_text, line_text_of, EveryLineIsItsText, EveryTextIsReadBack, LineFault, Rule, Classic, EmptyCapture}
use Rattle.kalah_jobs.proofs.{LineLemmas.{IsReading, without_cr-append}, SideLemmas.{number_has_one_text, number_at_most_99, decimal_writes_number, house_before_others}}

-- ==== What writes a position is its text

-- a text that writes houses is theirs
houses_have_one_text : (text houses : List ℕ) → AreHouses text houses → text ≡ listed houses
houses_have_one_text text [] written = absurd written
houses_have_one_text text (n ∷ []) written = number_has_one_text text n written
houses_have_one_text text (n ∷ m ∷ houses) written =
    cc (
      written.parts,
      number_has_one_text written.house_text n written.house_written,
      houses_have_one_text written.others_text (m ∷ houses) written.others_written,
    )

-- a text that writes a side is its text
side_has_one_text : {text houses : List ℕ} {store : ℕ} → IsSide text houses store → text ≡ side_text houses store
side_has_one_text {houses = houses} {store} side =
    cc (
      side.parts,
      houses_have_one_text side.houses_text houses side.houses_written,
      number_has_one_text side.store_text store side.store_written,
    )

pub every_line_is_its_text : EveryLineIsItsText
unfolding line_text_of
every_line_is_its_text line p reads =
    cc (reads.form.parts, side_has_one_text reads.form.own_side, side_has_one_text reads.form.other_side)

-- what holds of the result of a reading
pub record IsResult (line : List ℕ) (r : Result Position LineFault) : Type 0 where
  pub reads : IfOk r (Reads line)
  pub text : IfOk r (λ p. without_cr line ≡ line_text_of p)
  pub stores : IfOk r (λ p. (p.own_store ≤ most_in_store) × (p.other_store ≤ most_in_store))
  pub fault : IfErr r (HasFault line)

-- this holds of what each line is read as
pub result_of_reading : (line : List ℕ) (r : Result Position LineFault) → IsReading line r → IsResult line r
result_of_reading line (Ok p) reading =
    let form = reading.form in
    record {
      reads = reading;
      text = every_line_is_its_text line p reading;
      stores = (
        number_at_most_99 form.own_side.store_text p.own_store form.own_side.store_written,
        number_at_most_99 form.other_side.store_text p.other_store form.other_side.store_written,
      );
      fault = tt;
    }
result_of_reading line (Err fault) reading = record { reads = tt; text = tt; stores = tt; fault = reading }

-- ==== The text of a position writes it

-- the text of houses writes them
text_writes_houses : (houses : List ℕ) → 1 ≤ length houses → sum houses ≤ 99 → AreHouses (listed houses) houses
text_writes_houses [] some few = absurd (omega arith)
text_writes_houses (n ∷ []) some few = decimal_writes_number n (omega arith)
text_writes_houses (n ∷ m ∷ houses) some few =
    let all = sum_by-cons (λ (x : ℕ). x) n (m ∷ houses) in
    let rest = text_writes_houses (m ∷ houses) (omega arith) (omega arith) in
    house_before_others (decimal n) (listed (m ∷ houses)) n (m ∷ houses)
    (decimal_writes_number n (omega arith)) rest

-- the text of a side writes it
text_writes_side : (houses : List ℕ) (store : ℕ) → 1 ≤ length houses → sum houses ≤ 99 → store ≤ 99
    → IsSide (side_text houses store) houses store
text_writes_side houses store some short low = record {
  houses_text = listed houses;
  store_text = decimal store;
  parts = refl;
  houses_written = text_writes_houses houses some short;
  store_written = decimal_writes_number store low;
}

-- ==== How long a text is

small_number_length : (n : ℕ) → n ≤ 99 → length (decimal n) ≤ 2
small_number_length n low = length-decimal-le 2 n (lit< tt) (omega arith) (omega arith)

-- houses take at most three bytes each
houses_text_length : (houses : List ℕ) → sum houses ≤ 99 → length (listed houses) ≤ 3 * length houses
houses_text_length [] few = omega arith
houses_text_length (n ∷ []) few = omega (arith, small_number_length n (omega arith))
houses_text_length (n ∷ m ∷ houses) few =
    let all = sum_by-cons (λ (x : ℕ). x) n (m ∷ houses) in
    let rest = houses_text_length (m ∷ houses) (omega arith) in
    let first = small_number_length n (omega arith) in
    omega (arith, length-append (decimal n) (comma ∷ listed (m ∷ houses)))

-- a side takes at most 21 bytes
side_text_length : (houses : List ℕ) (store : ℕ) → length houses ≤ most_houses → sum houses ≤ 99 → store ≤ 99
    → length (side_text houses store) ≤ 21
side_text_length houses store few short low =
    let own = houses_text_length houses short in
    let last = small_number_length store low in
    omega (arith, length-append (listed houses) (slash ∷ decimal store))

-- ==== The text of a position is read back

-- the line of a position isn't too long
text_has_few_bytes : (p : Position) → IsWithinLimits p → p.own_store ≤ most_in_store → p.other_store ≤ most_in_store
    → length (line_text_of p) ≤ most_line_bytes
unfolding line_text_of
text_has_few_bytes p limits own_low other_low =
    let own = side_text p.own p.own_store in
    let other = side_text p.other p.other_store in
    let short_suffix : length (suffix_of p.rule) ≤ 2 = grind arith in
    omega (
      arith,
      side_text_length p.own p.own_store limits.at_most_six (omega (arith, limits.few_seeds)) own_low,
      side_text_length p.other p.other_store (omega (arith, limits.at_most_six, limits.same_side))
          (omega (arith, limits.few_seeds)) other_low,
      length-append (own ++ space ∷ other) (suffix_of p.rule),
      length-append own (space ∷ other),
    )

-- a number doesn't end in a CR
number_ends_without_cr : (byte : ℕ) (text : List ℕ) (n : ℕ) → IsNumber text n → without_cr (byte ∷ text) ≡ byte ∷ text
number_ends_without_cr byte text n written = grind (arith, nat_tests)

-- it doesn't end in a CR
text_without_cr : (front houses : List ℕ) (store : ℕ) (rule : Rule) → store ≤ 99 →
    without_cr (front ++ space ∷ side_text houses store ++ suffix_of rule) ≡ front ++ space ∷ side_text houses store ++ suffix_of rule
text_without_cr front houses store Classic low = rw append-nil (cc (
  without_cr-append front space (side_text houses store),
  without_cr-append (space ∷ listed houses) slash (decimal store),
  number_ends_without_cr slash (decimal store) store (decimal_writes_number store low),
))
text_without_cr front houses store EmptyCapture low = without_cr-append (front ++ space ∷ side_text houses store) space (codes "e")

pub every_text_is_read_back : EveryTextIsReadBack
unfolding line_text_of
every_text_is_read_back p limits own_low other_low =
    let same : without_cr (line_text_of p) ≡ line_text_of p =
    text_without_cr (side_text p.own p.own_store) p.other p.other_store p.rule other_low in
    record {
      few_bytes = rw same (text_has_few_bytes p limits own_low other_low);
      form = rw same (record {
        own_text = side_text p.own p.own_store;
        other_text = side_text p.other p.other_store;
        parts = refl;
        own_side = text_writes_side p.own p.own_store limits.some_house (omega (arith, limits.few_seeds)) own_low;
        other_side = text_writes_side p.other p.other_store (omega (arith, limits.some_house, limits.same_side))
            (omega (arith, limits.few_seeds)) other_low;
      });
      sides = record { same_side = limits.same_side; at_most_six = limits.at_most_six };
      few_seeds = limits.few_seeds;
    }
