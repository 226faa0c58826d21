-- The desk: each step keeps its protocol, and what the rows are at the end.
use Rattle.std.proofs.Common.{◌≡◌, inl, inr, ℕ, zero, suc, ◌+◌, ◌≤◌, List, [], ◌∷◌, ◌++◌, length, set, refl, sym, ap, ◌∙◌, subst, arith}
use Rattle.std.proofs.Common.{length-append, append-nil, append_assoc, ◌%◌, ◌^◌, ◌<◌, get_or, true, false, cond, ◌-◌, ◌==◌, sum_by, count_by, All}
use Rattle.std.proofs.Common.{nat_lt, AllPairs, if◌then◌else◌, slice_index, max, min, IsTrue, ◌↔◌, mod-eq_of_lt}
use Rattle.std.proofs.lemmas.List.{set-set, FromFn.{length-range_with_len}, Sums.{sum_by-cons, sum_by_push, count_by-le-length, get_or-le-sum_by}}
use Rattle.std.proofs.lemmas.List.{Elements.{All-append, All-nil, All-cons, All-head}, Quantifiers.{all_pairs_push}}
use Rattle.std.proofs.lemmas.Bool.{lt-ltb, le-ltb, cases_lt, Decides.{nat_tests}}
use mathlib.Core.Option.{some, some-injective, some-ne-none, none}
use lib.ListN.{get_elem?}
use Rattle.atomic_table.proofs.Lists.{set_again, set_here}
use Rattle.kalah_run.proofs.{ViewLemmas.{Each, each_more, each_set, in_views, was_there}, RowLemmas.{times_in_row, times_rows, sum_set, rows_set, rows_push, rows_at, all_at, all_from, rows_within_passes, has_all, Ascends, deals_alike, none_or_all}}
use Rattle.kalah_run.specs.{DrawnRow, DeskPlan, DeskView, drawn_row, drawn_in, spent_in, DealsEachOnce, most_passes, as_pass_view, row_in, total_in}
use Rattle.kalah_run.specs.{number_in, declared.desk.protocol.DeskView.TheVariants.{Opening, Drawing, Closing, Reclaimed}}
use Rattle.kalah_run.specs.Desk.Protocol.{rows_in, all_rows, passes_in, HasTotal, IsLawful, opening_view, CountsWhatItDeals, Draws}
use Rattle.kalah_run.specs.Desk.Protocol.{DrawsRest, StartsClosing, after_handing_out, pass_handed_out, after_reclaiming}
use Rattle.atomic_table.specs.Table.{State, Me, step, keeps, Allows, opening, Splits, Joins, Enters, Seen, Final}
use Rattle.kalah_jobs.specs.Limits.{most_lines}
use Rattle.std.specs.List.{range_with_len}

-- what is kept of each view: it has the plan's total, if it has one, and its rows ascend
abbrev FollowsPlan : DeskPlan → ℕ → DeskView → Type 0
FollowsPlan plan seat view = HasTotal plan.total view × All Ascends (rows_in view)

-- of a lawful desk
module _ {S : Type 0} {plan : DeskPlan} {s : State S DeskView} (kept : IsLawful plan s) where
  -- its views follow the plan
  following : Each (FollowsPlan plan) s.views
  following seat view has_view = (kept.totals seat view has_view, all_at Ascends s.views seat has_view kept.deals.ascending)

  -- no more passes are spent than there are
  few_spent : spent_in (all_rows s.views) ≤ plan.passes
  few_spent = omega (arith, kept.passes, count_by-le-length (λ r. r.spent) (all_rows s.views), rows_within_passes s.views)

  -- its word, which a draw finds
  abbrev word_of : ℕ
  word_of = kept.drawn + spent_in (all_rows s.views)

  -- the protocol in plain words
  pub counts_what_it_deals : CountsWhatItDeals plan.total plan.passes s.words (all_rows s.views)
  counts_what_it_deals =
      record { drawn = kept.drawn; deals = kept.deals; word = kept.word; most = omega (arith, kept.deals.within, few_spent) }

-- ==== A draw keeps the protocol, and returns what it must

-- the view of a pass that is not spent
abbrev unspent_view : ℕ → ℕ → List ℕ → DeskView
unspent_view total number numbers = Drawing total number (drawn_row numbers false)

-- its view after it was answered n
abbrev drawn_view : ℕ → ℕ → List ℕ → ℕ → DeskView
drawn_view total number numbers n = unspent_view total number (numbers ++ n ∷ [])

-- its view after it was answered None
abbrev spent_view : ℕ → ℕ → List ℕ → DeskView
spent_view total number numbers = Drawing total number (drawn_row numbers true)

-- the state with these words, after a change of the view of one seat
abbrev after_step : {S : Type 0} → State S DeskView → List ℕ → ℕ → DeskView → State S DeskView
after_step s words seat view = record { words = words; homes = s.homes; views = set s.views seat view }

-- what is to stand once, with one number more
once_more : (x drawn : ℕ) → (if nat_lt x drawn then 1 else 0) + cond (drawn == x) 1 0 ≡ (if nat_lt x (drawn + 1) then 1 else 0)
once_more x drawn = grind (arith, nat_tests)

-- a draw of a pass that is not spent
module _ {S : Type 0} {plan : DeskPlan} {s : State S DeskView} (seat : ℕ) {total number : ℕ} {numbers : List ℕ} (kept : IsLawful plan s)
    (has_view : get_elem? s.views seat ≡ some (unspent_view total number numbers)) where
  -- all numbers of the pass's row are below the count of those drawn
  stands_below : All (λ x. x < kept.drawn) numbers
  stands_below k d within =
      let x = get_or numbers k d in
      let here : cond (x == x) 1 0 ≤ count_by (λ y. y == x) numbers = get_or-le-sum_by (λ y. cond (y == x) 1 0) numbers k d within in
      let mine : sum_by (times_in_row x) (drawn_row numbers false ∷ []) ≤ sum_by (times_in_row x) (all_rows s.views) =
      rows_at (times_in_row x) s.views seat has_view in
      below x kept.drawn (count_by (λ y. y == x) numbers) here
      (omega (arith, times_rows x (all_rows s.views), kept.deals.each_once x))
    where
      below : (x c n : ℕ) → cond (x == x) 1 0 ≤ n → n ≤ (if nat_lt x c then 1 else 0) → x < c
      below x c n here few = grind (arith, nat_tests)

  ascends : Ascends (drawn_row numbers false)
  ascends = All-head Ascends (drawn_row numbers false) [] (following kept seat _ has_view).1

  -- all rows ascend after a change of it to one that does
  stays_ascending : (view : DeskView) → All Ascends (rows_in view) → All Ascends (all_rows (set s.views seat view))
  stays_ascending view mine = all_from Ascends (set s.views seat view)
      (each_set (λ k view. All Ascends (rows_in view)) s.views seat view mine (λ j u apart has_view. (following kept j u has_view).1))

  -- the protocol stays if the row of the pass changes, and the rows deal each of the numbers once that the word counts
  kept_after : {drawn word : ℕ} (row : DrawnRow) → DealsEachOnce plan.total drawn (all_rows (set s.views seat (Drawing total number row)))
      → word ≡ drawn + spent_in (all_rows (set s.views seat (Drawing total number row)))
      → IsLawful plan (after_step s (word ∷ []) seat (Drawing total number row))
  kept_after {drawn} row deals counts = record {
    few = kept.few;
    drawn = drawn;
    word = ap (◌∷ []) counts;
    passes = omega (arith, sum_set passes_in s.views seat (Drawing total number row) has_view, kept.passes);
    deals = deals;
    totals = each_set (λ k view. HasTotal plan.total view) s.views seat (Drawing total number row)
        (kept.totals seat _ has_view) (λ j u apart has_view. kept.totals j u has_view);
  }

  -- it finds a number below the total: the protocol stays with that at the end of the pass's row, where it is above all others
  draws_some : word_of kept < total
      → IsLawful plan (after_step s ((word_of kept + 1) ∷ []) seat (drawn_view total number numbers (word_of kept))) × All
      (λ x. x < word_of kept) numbers
  draws_some low =
      let n = kept.drawn in
      let after = drawn_view total number numbers n in
      let rows = all_rows (set s.views seat after) in
      let same : total ≡ plan.total = kept.totals seat _ has_view in
      let none_spent : spent_in (all_rows s.views) ≡ 0 =
      elim (none_or_all kept.deals) [ inl unspent ↦ unspent | inr full ↦ omega arith ] in
      let word_is : word_of kept ≡ n = omega arith in
      let drawn : drawn_in rows ≡ drawn_in (all_rows s.views) + 1 =
      omega (arith, rows_set (λ r. length r.numbers) s.views seat after has_view, length-append numbers (n ∷ [])) in
      let spent : spent_in rows ≡ spent_in (all_rows s.views) =
      omega (arith, rows_set (λ r. cond r.spent 1 0) s.views seat after has_view) in
      let rises : Ascends (drawn_row (numbers ++ n ∷ []) false) = all_pairs_push (λ x y. x < y) numbers n ascends stands_below in
      rw word_is (
        kept_after (drawn_row (numbers ++ n ∷ []) false) (record {
          within = omega arith;
          count = omega (arith, kept.deals.count);
          each_once = λ x.
              let more : sum_by (times_in_row x) rows ≡ sum_by (times_in_row x) (all_rows s.views) + cond (n == x) 1 0 =
              omega (arith, rows_set (times_in_row x) s.views seat after has_view, sum_by_push (λ y. cond (y == x) 1 0) numbers n) in
              times_rows x rows ∙ more
              ∙ ap (λ k. k + cond (n == x) 1 0) (sym (times_rows x (all_rows s.views)) ∙ kept.deals.each_once x)
              ∙ once_more x n;
          ascending = stays_ascending after (All-cons Ascends (drawn_row (numbers ++ n ∷ []) false) [] rises (All-nil Ascends));
          spent = λ some_spent. absurd (omega (arith, spent));
        }) (omega (arith, spent)),
        stands_below,
      )

  -- it finds none: the protocol stays, and the pass is spent
  draws_none : total ≤ word_of kept → IsLawful plan (after_step s ((word_of kept + 1) ∷ []) seat (spent_view total number numbers))
  draws_none high =
      let after = spent_view total number numbers in
      let same : total ≡ plan.total = kept.totals seat _ has_view in
      let full : kept.drawn ≡ plan.total =
      elim (none_or_all kept.deals) [ inl unspent ↦ omega (arith, kept.deals.within) | inr full ↦ full ] in
      let drawn : drawn_in (all_rows (set s.views seat after)) ≡ drawn_in (all_rows s.views) =
      omega (arith, rows_set (λ r. length r.numbers) s.views seat after has_view) in
      let spent : spent_in (all_rows (set s.views seat after)) ≡ spent_in (all_rows s.views) + 1 =
      omega (arith, rows_set (λ r. cond r.spent 1 0) s.views seat after has_view) in
      kept_after (drawn_row numbers true)
      (deals_alike kept.deals drawn (λ x. omega (arith, rows_set (times_in_row x) s.views seat after has_view))
      (stays_ascending after (All-cons Ascends (drawn_row numbers true) [] ascends (All-nil Ascends))) (λ _. full))
      (omega (arith, spent))

  -- a step that draws no number changes nothing
  draws_nothing : {word : ℕ} → word ≡ word_of kept
      → IsLawful plan (after_step s (word ∷ []) seat (unspent_view total number (numbers ++ [])))
  draws_nothing word_is =
      let same = set_again s.views seat _ (has_view ∙ ap (λ l. some (unspent_view total number l)) (sym (append-nil numbers))) in
      let words = kept.word ∙ ap (◌∷ []) (sym word_is) in
      subst (IsLawful plan) (λ i. let t : State S DeskView = record { words = words i; homes = s.homes; views = sym same i } in t) kept

-- A step by f of a pass that is not spent is allowed if from each lawful state it leaves a view that keeps the protocol, and for that view
-- `tells` holds.
allowed_step : {S : Type 0} {plan : DeskPlan} {slots seat : ℕ} (f : ℕ → ℕ) (tells : Me S DeskView → ℕ → Me S DeskView → Type 0)
    → ((total number : ℕ) (numbers : List ℕ) (s : State S DeskView) (kept : IsLawful plan s)
    → get_elem? s.views seat ≡ some (unspent_view total number numbers) → (after : DeskView)
    × IsLawful plan (after_step s (f (word_of kept) ∷ []) seat after)
    × tells (unspent_view total number numbers, []) (word_of kept) (after, []))
    → (me : Me S DeskView) → me ≡ (as_pass_view me.0, []) → (row_in me.0).spent ≡ false
    → Allows {S = S} (IsLawful plan) slots seat me 0 f (tells me)
allowed_step f tells steps me is_pass unspent =
    let total = total_in me.0 in
    let number = number_in me.0 in
    let numbers = (row_in me.0).numbers in
    rw (is_pass ∙ ap (λ b. (Drawing total number (drawn_row numbers b), [])) unspent) (λ s kept homes has_view fits.
    let found : slice_index s.words 0 ≡ word_of kept = ap (λ words. slice_index words 0) kept.word in
    let words : set s.words 0 (f (slice_index s.words 0)) ≡ f (word_of kept) ∷ [] =
    ap (λ words. set words 0 (f (slice_index s.words 0))) kept.word ∙ ap (λ n. f n ∷ []) found in
    let step = steps total number numbers s kept has_view in
    (step.0, keeps, tt, rw words step.1, rw found step.2))

-- a draw of a seat that is known to be a pass that is not spent
pub draw_is_lawful : {S : Type 0} (plan : DeskPlan) (slots seat : ℕ) (me : Me S DeskView) → me ≡ (as_pass_view me.0, [])
    → (row_in me.0).spent ≡ false
    → Allows {S = S} (IsLawful plan) slots seat me 0 (λ n. (n + 1) % 2 ^ 64) (Draws (step slots 0 1 0 none) me)
draw_is_lawful plan slots seat =
    allowed_step (λ n. (n + 1) % 2 ^ 64) (Draws (step slots 0 1 0 none)) (λ total number numbers s kept has_view.
    let n = word_of kept in
    let next : (n + 1) % 2 ^ 64 ≡ n + 1 =
    mod-eq_of_lt (omega (arith, kept.deals.within, kept.few.0, few_spent kept, kept.few.1)) in
    elim (cases_lt n total) [
      | inl low ↦
          let some = draws_some seat kept has_view low in
          (drawn_view total number numbers n, rw next some.0, (refl, rw (lt-ltb n total low) (refl, some.1)))
      | inr high ↦
          (spent_view total number numbers, rw next (draws_none seat kept has_view high), (refl, rw (le-ltb n total high) refl))
    ])

-- ==== A pass draws all that is left: that keeps the protocol, as one draw after the other does

-- it draws the numbers that are left, from the first of them on
draws_all : {S : Type 0} {plan : DeskPlan} (left : ℕ) {s : State S DeskView} (seat : ℕ) {total number : ℕ} {numbers : List ℕ}
    (kept : IsLawful plan s) (has_view : get_elem? s.views seat ≡ some (unspent_view total number numbers)) → word_of kept + left ≡ total
    → IsLawful plan (after_step s (total ∷ []) seat (unspent_view total number (numbers ++ range_with_len (word_of kept) left)))
draws_all zero seat kept has_view all = draws_nothing seat kept has_view (omega arith)
draws_all {S} {plan} (suc left) {s} seat {total} {number} {numbers} kept has_view all =
    let n = word_of kept in
    let after = drawn_view total number numbers n in
    let one = (draws_some seat kept has_view (omega arith)).0 in
    let has_after = set_here s.views seat after (in_views s.views seat has_view) in
    let next : word_of one ≡ n + 1 = ap (λ words. slice_index words 0) (sym one.word) in
    rw (set-set s.views seat after _, append_assoc numbers (n ∷ []) (range_with_len (n + 1) left)) at
    (rw next at (draws_all left seat one has_after (omega arith)))

-- a seat that is known to be a pass that is not spent draws all that is left
pub draw_rest_is_lawful : {S : Type 0} (plan : DeskPlan) (slots seat limit : ℕ) → limit ≡ plan.total → (me : Me S DeskView)
    → me ≡ (as_pass_view me.0, []) → (row_in me.0).spent ≡ false
    → Allows {S = S} (IsLawful plan) slots seat me 0 (λ n. max n limit) (DrawsRest (step slots 0 limit 0 none) me)
draw_rest_is_lawful plan slots seat limit limit_is =
    allowed_step (λ n. max n limit) (DrawsRest (step slots 0 limit 0 none)) (λ total number numbers s kept has_view.
    let n = word_of kept in
    let same : total ≡ plan.total = kept.totals seat _ has_view in (
      unspent_view total number (numbers ++ range_with_len n (total - n)),
      elim (cases_lt n total) [
        | inl low ↦
            let most : total ≡ max n limit = omega arith in
            rw (← most) (draws_all (total - n) seat kept has_view (omega arith))
        | inr high ↦
            let none_left : total - n ≡ 0 = omega arith in
            rw none_left (draws_nothing seat kept has_view (omega arith))
      ],
      (refl, refl),
    ))

-- a row is longer by the count of the numbers from n on once these are drawn
pub rest_counted : (before : DrawnRow) (n total : ℕ) {after : DrawnRow} {drawn : ℕ}
    → after ≡ drawn_row (before.numbers ++ range_with_len n (total - n)) before.spent → drawn ≡ total - n
    → length after.numbers ≡ length before.numbers + drawn
rest_counted before n total after_is drawn_is =
    let more = range_with_len n (total - n) in
    omega (arith, ap (λ r. length r.numbers) after_is, length-append before.numbers more, length-range_with_len n (total - n))

-- ==== The seats that come and go keep the protocol: the first one, that of a pass handed out, the closing one, that of a pass that ends

-- The protocol stays if seats change and the sums over all rows don't, and no pass is lost. An empty row that is not spent adds nothing.
kept_alike : {S : Type 0} {plan : DeskPlan} {s : State S DeskView} (after : State S DeskView) → IsLawful plan s → after.words ≡ s.words
    → ((f : DrawnRow → ℕ) → f (drawn_row [] false) ≡ 0 → sum_by f (all_rows after.views) ≡ sum_by f (all_rows s.views))
    → sum_by passes_in after.views ≡ sum_by passes_in s.views → Each (FollowsPlan plan) after.views → IsLawful plan after
kept_alike after kept words same passes fits =
    let spent = same (λ r. cond r.spent 1 0) refl in
    record {
      few = kept.few;
      drawn = kept.drawn;
      word = words ∙ kept.word ∙ ap (◌∷ []) (omega (arith, spent));
      passes = passes ∙ kept.passes;
      deals = deals_alike kept.deals (same (λ r. length r.numbers) refl) (λ x. same (times_in_row x) refl)
          (all_from Ascends after.views (λ seat view has_view. (fits seat view has_view).1))
          (λ some_spent. kept.deals.spent (omega (arith, spent)));
      totals = λ seat view has_view. (fits seat view has_view).0;
    }

-- the empty desk
pub opening_is_lawful : {S : Type 0} (plan : DeskPlan) → plan.total ≤ most_lines → plan.passes ≤ most_passes
    → IsLawful {S = S} plan (opening (0 ∷ []) [] (opening_view plan))
opening_is_lawful plan total passes = record {
  few = (total, passes);
  drawn = 0;
  word = refl;
  passes = sum_by-cons passes_in (opening_view plan) [] ∙ omega arith;
  deals = record {
    within = omega arith;
    count = refl;
    each_once = λ x. grind (arith, nat_tests);
    ascending = All-nil (λ r. AllPairs (λ x y. x < y) r.numbers);
    spent = λ some_spent. absurd (omega arith);
  };
  totals = each_more (λ seat view. HasTotal plan.total view) [] (opening_view plan) (λ j u e. absurd (some-ne-none u (sym e))) refl;
}

pub hand_out_is_lawful : {S : Type 0} {plan : DeskPlan} (seat : ℕ) {v : DeskView} {total handed_out left : ℕ}
    → v ≡ Opening total handed_out left → 0 < left → Splits {S = S} (IsLawful plan) seat v (after_handing_out v) (pass_handed_out v)
hand_out_is_lawful {S} {plan} seat {v} {total} {handed_out} {left} opening some_left = rw opening (λ s kept has_view.
    let opener = Opening total (handed_out + 1) (left - 1) in
    let pass = Drawing total handed_out (drawn_row [] false) in
    let views = set s.views seat opener in
    let mine : HasTotal plan.total pass = kept.totals seat _ has_view in
    let none : Ascends (drawn_row [] false) = λ i j d under within. absurd (omega arith) in
    kept_alike _ kept refl
    (λ f nothing. omega (arith, rows_push f views pass, rows_set f s.views seat opener has_view, sum_by-cons f (drawn_row [] false) []))
    (omega (arith, sum_by_push passes_in views pass, sum_set passes_in s.views seat opener has_view))
    (each_more (FollowsPlan plan) views pass
    (each_set (FollowsPlan plan) s.views seat opener (mine, All-nil Ascends) (λ j u apart has_view. following kept j u has_view))
    (mine, All-cons Ascends (drawn_row [] false) [] none (All-nil Ascends))))

-- a seat that is to reclaim the passes
pub start_closing_is_lawful : {S : Type 0} (plan : DeskPlan) (slots : ℕ)
    → Enters {S = S} (IsLawful plan) slots 0 (λ n w. StartsClosing {S = S} (step slots 0 0 0 none) (opening_view plan, []) n (w, []))
start_closing_is_lawful {S} plan slots s kept homes fits = (
  Closing [],
  kept_alike _ kept refl (λ f nothing. omega (arith, rows_push f s.views (Closing [])))
      (omega (arith, sum_by_push passes_in s.views (Closing [])))
      (each_more (FollowsPlan plan) s.views (Closing []) (following kept) (tt, All-nil Ascends)),
  refl,
)

-- a seat that is known to be the closing one takes back the pass of a seat that is known to be a pass
pub reclaim_is_lawful : {S : Type 0} (plan : DeskPlan) (seat : ℕ) (v : DeskView) (other : ℕ) (w : DeskView)
    → v ≡ Closing (rows_in v) → w ≡ as_pass_view w → Joins {S = S} (IsLawful plan) seat v other w (after_reclaiming v w) Reclaimed
reclaim_is_lawful plan seat v other w closing_is is_pass = rw closing_is (rw is_pass (λ s kept has_view apart has_pass.
    let rows = rows_in v in
    let row = row_in w in
    let closing = Closing (row ∷ rows) in
    let between = set s.views seat closing in
    let own : All Ascends rows = all_at Ascends s.views seat has_view kept.deals.ascending in
    let theirs : All Ascends (row ∷ []) =
    all_at Ascends s.views other (was_there s.views seat other closing apart has_pass) kept.deals.ascending in
    kept_alike _ kept refl
    (λ f nothing. omega (
      arith,
      rows_set f s.views seat closing has_view,
      rows_set f between other Reclaimed has_pass,
      sum_by-cons f row rows,
    ))
    (omega (arith, sum_set passes_in s.views seat closing has_view, sum_set passes_in between other Reclaimed has_pass))
    (each_set (FollowsPlan plan) between other Reclaimed (tt, All-nil Ascends) (λ i view away has_view.
    each_set (FollowsPlan plan) s.views seat closing (tt, All-append Ascends (row ∷ []) rows theirs own)
    (λ j u apart has_view. following kept j u has_view) i view has_view))))

-- ==== What the last word and the closing seat determine of the rows

-- the last word, cut to the total, is how many numbers the rows deal, and it is above the total exactly when some pass is spent
pub record Determines (word total : ℕ) (rows : List DrawnRow) : Type 0 where
  pub deals : DealsEachOnce total (min word total) rows
  pub spent : IsTrue (nat_lt total word) ↔ (0 < spent_in rows)

-- what the word determines, if the desk counts what it deals
last_word : {total passes word : ℕ} {words : List ℕ} {rows : List DrawnRow} → CountsWhatItDeals total passes words rows
    → get_elem? words 0 ≡ some word → Determines word total rows
last_word {total} {word = word} {rows = rows} counts found =
    let within = counts.deals.within in
    let counted : word ≡ counts.drawn + spent_in rows =
    some-injective _ _ (sym found ∙ ap (λ (l : List ℕ). get_elem? l 0) counts.word) in
    let drawn : min word total ≡ counts.drawn =
    elim (none_or_all counts.deals) [ inl unspent ↦ omega arith | inr full ↦ omega arith ] in
    record {
      deals = rw drawn counts.deals;
      spent = (
        (λ high. let above : total < word = grind (arith, nat_tests) in omega arith),
        (λ some_spent. let full = counts.deals.spent some_spent in
            let high : total < word = omega arith in grind (arith, nat_tests)),
      );
    }

-- so it is once the closing seat has a row for each pass
pub rows_at_end : {S : Type 0} {plan : DeskPlan} {seat word : ℕ} {v : DeskView} {rows : List DrawnRow} (words : List ℕ) (homes : List S)
    → v ≡ Closing rows → Final {S = S} (Seen (IsLawful plan) seat v) words homes → length rows ≡ plan.passes
    → get_elem? words 0 ≡ some word → Determines word plan.total rows
rows_at_end {rows = rows} words homes closing last whole found =
    let kept = last.1.0 in
    let all : all_rows last.0.views ≡ rows = has_all last.0.views _ rows (last.1.1 ∙ ap some closing) (whole ∙ sym kept.passes) in
    last_word (rw (last.2, all) at (counts_what_it_deals kept)) found
