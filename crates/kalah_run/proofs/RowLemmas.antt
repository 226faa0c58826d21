-- The rows that the seats of a desk know: sums over them and facts of each, after a change of one seat, and what they deal.
use Rattle.std.proofs.Common.{◌≡◌, ◌⊎◌, inl, inr, ℕ, zero, suc, ◌+◌, ◌≤◌, List, [], ◌∷◌, ◌++◌, length, set, refl, sym, ap, ◌∙◌, arith, length-append}
use Rattle.std.proofs.Common.{append-nil, ◌<◌, ◌==◌, sum_by, count_by, All, AllPairs, Some, Bool, if◌then◌else◌, ne_eqb, subst}
use Rattle.std.proofs.lemmas.List.{map-append, nil_from_length, take_at, drop_at}
use Rattle.std.proofs.lemmas.List.Sums.{sum_by-cons, sum_by-append, sum_by_push, sum_by-set, get_or-le-sum_by}
use Rattle.std.proofs.lemmas.List.Elements.{All-append, All-nil, All-pop, All-tail, All-take, All-drop}
use Rattle.std.proofs.lemmas.Bool.{cases_eq, cases_lt}
use mathlib.Core.Option.{some, some-injective, some-ne-none}
use lib.ListN.{get_elem?}
use Rattle.kalah_run.proofs.ViewLemmas.{Each, in_views, view_at}
use Rattle.kalah_run.specs.{DrawnRow, DeskView, drawn_numbers, drawn_in, spent_in, DealsEachOnce, PassState, drawn_rows, declared.desk.protocol.DeskView.TheVariants.{Closing}, Desk.Protocol.{rows_in, all_rows, passes_in}}
use Rattle.kalah_jobs.specs.Collecting.Shares.{times_in}

-- ==== Sums over the rows of all seats, and facts of each row: after a change of one seat's view, and after a new seat

-- how often x stands in a row
abbrev pub times_in_row : ℕ → DrawnRow → ℕ
times_in_row x r = count_by (λ y. y == x) r.numbers

-- how often x stands in the rows, as a sum over the rows
pub times_rows : (x : ℕ) (rows : List DrawnRow) → times_in x (drawn_numbers rows) ≡ sum_by (times_in_row x) rows
times_rows x [] = refl
times_rows x (r ∷ rs) =
    let mine = sum_by-cons (λ numbers. count_by (λ y. y == x) numbers) r.numbers (drawn_numbers rs) in
    omega (arith, times_rows x rs, sum_by-cons (times_in_row x) r rs)

-- a sum, after a change of one term
pub sum_set : {X : Type 0} (f : X → ℕ) (xs : List X) (k : ℕ) {old : X} (new : X) → get_elem? xs k ≡ some old
    → sum_by f (set xs k new) + f old ≡ sum_by f xs + f new
sum_set f xs k {old} new has_old = rw (view_at xs k old has_old) at (sum_by-set f xs k new old (in_views xs k has_old))

-- a term is within the sum
sum_at : {X : Type 0} (f : X → ℕ) (xs : List X) (k : ℕ) {term : X} → get_elem? xs k ≡ some term → f term ≤ sum_by f xs
sum_at f xs k {term} has_term = rw (view_at xs k term has_term) at (get_or-le-sum_by f xs k term (in_views xs k has_term))

-- the sum over all rows is one over the seats
rows_sum : (f : DrawnRow → ℕ) (views : List DeskView) → sum_by f (all_rows views) ≡ sum_by (λ view. sum_by f (rows_in view)) views
rows_sum f [] = refl
rows_sum f (x ∷ xs) =
    omega (arith, rows_sum f xs, sum_by-append f (rows_in x) (all_rows xs), sum_by-cons (λ view. sum_by f (rows_in view)) x xs)

-- the sum over all rows, after a change of one view
pub rows_set : (f : DrawnRow → ℕ) (views : List DeskView) (seat : ℕ) {old : DeskView} (new : DeskView)
    → get_elem? views seat ≡ some old
    → sum_by f (all_rows (set views seat new)) + sum_by f (rows_in old) ≡ sum_by f (all_rows views) + sum_by f (rows_in new)
rows_set f views seat new has_old =
    omega (arith, rows_sum f (set views seat new), rows_sum f views, sum_set (λ u. sum_by f (rows_in u)) views seat new has_old)

-- the same with one seat more
pub rows_push : (f : DrawnRow → ℕ) (views : List DeskView) (new : DeskView)
    → sum_by f (all_rows (views ++ new ∷ [])) ≡ sum_by f (all_rows views) + sum_by f (rows_in new)
rows_push f views new =
    omega (arith, rows_sum f (views ++ new ∷ []), rows_sum f views, sum_by_push (λ u. sum_by f (rows_in u)) views new)

-- the sum over one seat's rows is within that over all
pub rows_at : (f : DrawnRow → ℕ) (views : List DeskView) (seat : ℕ) {view : DeskView} → get_elem? views seat ≡ some view
    → sum_by f (rows_in view) ≤ sum_by f (all_rows views)
rows_at f views seat has_view = omega (arith, rows_sum f views, sum_at (λ u. sum_by f (rows_in u)) views seat has_view)

-- a fact of the rows of one seat
pub all_at : (P : DrawnRow → Type 0) (views : List DeskView) (seat : ℕ) {view : DeskView} → get_elem? views seat ≡ some view
    → All P (all_rows views) → All P (rows_in view)
all_at P [] seat {view} has_view all = absurd (some-ne-none view (sym has_view))
all_at P (x ∷ xs) zero {view} has_view all = rw (← some-injective x view has_view)
    (rw (take_at (rows_in x) (all_rows xs) _ refl) at (All-take P (length (rows_in x)) _ all))
all_at P (x ∷ xs) (suc seat) has_view all =
    all_at P xs seat has_view (rw (drop_at (rows_in x) (all_rows xs) _ refl) at (All-drop P (length (rows_in x)) _ all))

-- a fact of the rows of each seat is one of all rows
pub all_from : (P : DrawnRow → Type 0) (views : List DeskView) → Each (λ seat view. All P (rows_in view)) views → All P (all_rows views)
all_from P [] each = All-nil P
all_from P (x ∷ xs) each =
    All-append P (rows_in x) (all_rows xs) (each 0 x refl) (all_from P xs (λ seat view has_view. each (suc seat) view has_view))

-- a seat has at most one row for each of its passes
rows_within_one : (view : DeskView) → length (rows_in view) ≤ passes_in view
rows_within_one view = grind arith

-- and all seats have at most one for each of their passes
pub rows_within_passes : (views : List DeskView) → length (all_rows views) ≤ sum_by passes_in views
rows_within_passes [] = omega arith
rows_within_passes (x ∷ xs) =
    omega (arith, rows_within_passes xs, rows_within_one x, sum_by-cons passes_in x xs, length-append (rows_in x) (all_rows xs))

-- a closing seat that took in all passes has all rows
pub has_all : (views : List DeskView) (seat : ℕ) (rows : List DrawnRow) → get_elem? views seat ≡ some (Closing rows)
    → length rows ≡ sum_by passes_in views → all_rows views ≡ rows
has_all [] seat rows has_view whole = absurd (some-ne-none (Closing rows) (sym has_view))
has_all (x ∷ xs) zero rows has_view whole =
    let x_is : x ≡ Closing rows = some-injective x (Closing rows) has_view in
    let part : passes_in x ≡ length rows = ap passes_in x_is in
    let rest : all_rows xs ≡ [] =
    nil_from_length (all_rows xs) (omega (arith, rows_within_passes xs, sum_by-cons passes_in x xs)) in
    ap (λ u. rows_in u ++ all_rows xs) x_is ∙ ap (rows ++◌) rest ∙ append-nil rows
has_all (x ∷ xs) (suc seat) rows has_view whole =
    let mine : length rows ≤ sum_by passes_in xs = sum_at passes_in xs seat has_view in
    let no_pass : passes_in x ≡ 0 = omega (arith, sum_by-cons passes_in x xs) in
    let short : rows_in x ≡ [] = nil_from_length (rows_in x) (omega (arith, rows_within_one x)) in
    ap (◌++ all_rows xs) short ∙ has_all xs seat rows has_view (omega (arith, sum_by-cons passes_in x xs))

abbrev pub Ascends : DrawnRow → Type 0
Ascends r = AllPairs (λ x y. x < y) r.numbers

-- rows with the same numbers, each as often, deal the same
pub deals_alike : {total drawn : ℕ} {rows others : List DrawnRow} → DealsEachOnce total drawn rows → drawn_in others ≡ drawn_in rows
    → ((x : ℕ) → sum_by (times_in_row x) others ≡ sum_by (times_in_row x) rows) → All Ascends others
    → (0 < spent_in others → drawn ≡ total) → DealsEachOnce total drawn others
deals_alike {rows = rows} {others} deals drawn same ascending spent = record {
  within = deals.within;
  count = deals.count ∙ sym drawn;
  each_once = λ x. times_rows x others ∙ same x ∙ sym (times_rows x rows) ∙ deals.each_once x;
  ascending = ascending;
  spent = spent;
}

-- no pass is spent, or all numbers are drawn
pub none_or_all : {total drawn : ℕ} {rows : List DrawnRow} → DealsEachOnce total drawn rows → (spent_in rows ≡ 0) ⊎ (drawn ≡ total)
none_or_all {rows = rows} deals = elim (cases_lt 0 (spent_in rows)) [
  | inl some_spent ↦ inr (deals.spent some_spent)
  | inr few ↦ inl (omega arith)
]

-- if the last pass has drawn nothing, the others have all numbers
pub deals_to_others : {total drawn : ℕ} (passes : List PassState) (p : PassState) → p.row.numbers ≡ []
    → DealsEachOnce total drawn (drawn_rows (passes ++ p ∷ [])) → DealsEachOnce total drawn (drawn_rows passes)
deals_to_others {total} {drawn} passes p empty deals =
    let rows = drawn_rows passes in
    let all : DealsEachOnce total drawn (rows ++ p.row ∷ []) = rw (map-append (λ p. p.row) passes (p ∷ [])) at deals in
    deals_alike all
    (omega (arith, sum_by_push (λ x. length x.numbers) rows p.row, ap length empty))
    (λ x. omega (arith, sum_by_push (times_in_row x) rows p.row, ap (λ (l : List ℕ). count_by (λ y. y == x) l) empty))
    (All-pop Ascends (rows ++ p.row ∷ []) rows (Some p.row) refl all.ascending).0
    (λ some. all.spent (omega (arith, some, sum_by_push (λ x. if x.spent then 1 else 0) rows p.row)))

-- ==== What all numbers of some rows have

-- what a test adds to a count
abbrev pub one_if : Bool → ℕ
one_if passed = if passed then 1 else 0

-- a number that stands in a list has what all numbers there have
All-at_member : (P : ℕ → Type 0) (x : ℕ) (xs : List ℕ) → 0 < count_by (λ y. y == x) xs → All P xs → P x
All-at_member P x [] there all = absurd (omega arith)
All-at_member P x (y ∷ ys) there all =
    elim (cases_eq y x) [
      | inl same ↦ subst P same (all 0 y (omega arith))
      | inr other ↦ All-at_member P x ys
          (omega (arith, ap one_if (ne_eqb y x other), sum_by-cons (λ z. one_if (z == x)) y ys)) (All-tail P y ys all)
    ]

-- a number that stands in some row has what all numbers there have
pub All-at_dealt : (P : ℕ → Type 0) (x : ℕ) (rows : List DrawnRow) → 0 < times_in x (drawn_numbers rows)
    → All (λ r. All P r.numbers) rows → P x
All-at_dealt P x [] there all = absurd (omega arith)
All-at_dealt P x (r ∷ rs) there all =
    elim (cases_lt 0 (count_by (λ y. y == x) r.numbers)) [
      | inl here ↦ All-at_member P x r.numbers here (all 0 r (omega arith))
      | inr none ↦ All-at_dealt P x rs
          (omega (arith, sum_by-cons (λ (l : List ℕ). count_by (λ y. y == x) l) r.numbers (drawn_numbers rs)))
          (All-tail (λ r. All P r.numbers) r rs all)
    ]
