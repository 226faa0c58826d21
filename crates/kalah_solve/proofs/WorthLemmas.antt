-- What positions, moves and steps are worth.
use Rattle.kalah_rules.specs.declared.step.Step.TheVariants as board
use Rattle.std.proofs.Common.{zero, suc, ◌≡◌, ℕ, ◌+◌, ◌<◌, ◌≤◌, inl, inr, length, arith, sym, ◌∙◌, refl, ap, IsTrue, ◌-◌, Bool, true, false, Contains, map, unwrap_or, ℤ, if◌then◌else◌, pos, ◌≤ℤ◌, ◌<ℤ◌, sum, neg_ℤ, ◌+ℤ◌, ◌-ℤ◌, int_eq}
use Rattle.std.proofs.lemmas.{Bool.{cases_Bool, cases_lt, cond_both, Decides.{Decides-int_eq}}, Int.{ints}, List.{get_or_default, Elements.{All-from_get_or}, Sums.{sum_by-le}}}
use Rattle.kalah_solve.specs.{greatest, worth, best_house, value_by, worth_within, value_of_move, houses_worth, CountPlaysNoPart, WorthIsMostOfMoves, IsStepInVariant}
use Rattle.kalah_solve.proofs.ListLemmas.{find_passes, find_same, greatest_reached, greatest_is_most, greatest_shift, map_same}
use Rattle.kalah_rules.specs.{Position.{Position, IsWithinLimits, is_over, final_margin, HasEqualSides, total_seeds, swapped, swept, houses_in, storeless, HousesState, AreWithinLimits}, Sowing.{after, moves_again}, Play.{legal_houses, step_of}, Measure.{moves_left}, HousesStep.{houses_step_to, houses_step}, declared.step.{HousesStep.{HousesStep, TheVariants.{Over, Again, Turn}}}, Key.{variant_of, rule_bit}}
use Rattle.kalah_rules.proofs.{PlayLemmas.{IsLegal, legal_holds, holds_legal, sum-zeros, after_equal_sides, after_fewer, moves_left-swapped, with_store_seeds, after-store_seeds, storeless-store_seeds}, PackedLemmas.{after_keeps}, StepLemmas.{is_over-swapped, after_within, swapped_within}}

-- ==== The test whether two numbers are equal

pub int_eq-same : {a b : ℤ} → a ≡ b → int_eq a b ≡ true
int_eq-same {a} {b} same = (Decides-int_eq a b).1 same

pub int_eq-lower : (a b : ℤ) → a <ℤ b → int_eq a b ≡ false
int_eq-lower a b less = grind arith

-- ==== Best play does not depend on the count of moves, once it is high enough

pub over_at_end : (p : Position) → moves_left p ≡ 0 → is_over p ≡ true
over_at_end p none = grind arith

pub board_equal_sides : (p : Position) → IsWithinLimits p → HasEqualSides p
board_equal_sides p limits = omega arith

pub swapped_equal_sides : {p : Position} → HasEqualSides p → HasEqualSides (swapped p)
swapped_equal_sides {p} equal = omega arith

-- a value depends only on the worth of what follows
value_same : (v w : Position → ℤ) (p : Position) (h : ℕ) → v (after p h) ≡ w (after p h)
    → v (swapped (after p h)) ≡ w (swapped (after p h)) → value_by v p h ≡ value_by w p h
value_same v w p h again turn = cc

-- one move more, if the game goes on
worth_within-going : (n : ℕ) (p : Position) → is_over p ≡ false
    → worth_within (suc n) p ≡ greatest (map (value_by (worth_within n) p) (legal_houses p))
unfolding worth_within
worth_within-going n p going = cc

-- the final margin, if it does not
worth_within-over : (n : ℕ) (p : Position) → is_over p ≡ true → worth_within n p ≡ final_margin p
unfolding worth_within
worth_within-over zero p over = refl
worth_within-over (suc n) p over = cc

-- two worths that agree on positions with fewer moves left give the moves the same values
values_same : (v w : Position → ℤ) (p : Position) → HasEqualSides p
    → ((q : Position) → HasEqualSides q → moves_left q < moves_left p → v q ≡ w q)
    → map (value_by v p) (legal_houses p) ≡ map (value_by w p) (legal_houses p)
values_same v w p equal agree = map_same _ _ (legal_houses p) (λ h legal.
    let fewer = after_fewer (legal_holds _ legal) equal in
    let next_equal = after_equal_sides p h in
    value_same v w p h (agree _ next_equal fewer)
    (agree _ (swapped_equal_sides next_equal) (omega (arith, fewer, moves_left-swapped next_equal))))

-- two counts that are high enough give the same worth
worth_same : (n k : ℕ) (p : Position) → HasEqualSides p → moves_left p ≤ n → moves_left p ≤ k
    → worth_within n p ≡ worth_within k p
worth_same zero k p equal n_high k_high = grind (arith, over_at_end, worth_within-over)
worth_same (suc n) zero p equal n_high k_high = grind (arith, over_at_end, worth_within-over)
worth_same (suc n) (suc k) p equal n_high k_high = elim (cases_Bool _) [
  | inl over ↦ worth_within-over _ p over ∙ sym (worth_within-over _ p over)
  | inr going ↦ worth_within-going n p going
      ∙ ap greatest (values_same _ _ p equal (λ q is_equal fewer. worth_same n k q is_equal (omega arith) (omega arith)))
      ∙ sym (worth_within-going k p going)
]

pub count_plays_no_part : CountPlaysNoPart
unfolding worth
count_plays_no_part p n equal high = worth_same _ _ _ equal high (omega arith)

pub worth_of_over : (p : Position) → is_over p ≡ true → worth p ≡ final_margin p
unfolding worth
worth_of_over p over = worth_within-over _ _ over

-- the margin of any other is the greatest value over the legal houses
pub worth_of_going : {p : Position} → HasEqualSides p → is_over p ≡ false
    → worth p ≡ greatest (map (value_of_move p) (legal_houses p))
unfolding worth
worth_of_going {p} equal going =
    worth_same (moves_left p) (suc (moves_left p)) p equal (omega arith) (omega arith) ∙ worth_within-going _ _ going
    ∙ ap greatest (values_same (worth_within (moves_left p)) worth p equal
    (λ q is_equal fewer. worth_same _ _ q is_equal (omega arith) (omega arith)))

-- ==== What steps of positions are worth, and how many moves are left after them

final_margin-swept : (q : Position) → final_margin (swept q) ≡ final_margin q
final_margin-swept q = omega (arith, ints)

-- the step of the move of house h leads to e
module _ (p : Position) (h : ℕ) (e : Position) where
  -- a move that ends the game leaves it over
  pub over_ends : board.Over e ≡ step_of p h → IsTrue (is_over e)
  over_ends step_is = grind (arith, sum-zeros)

  -- the value of a move, by its step
  pub value_of_over : board.Over e ≡ step_of p h → final_margin e ≡ value_of_move p h
  value_of_over step_is = grind (arith, final_margin-swept)

  pub value_of_again : board.Again e ≡ step_of p h → worth e ≡ value_of_move p h
  value_of_again step_is = grind arith

  pub value_of_turn : board.Turn e ≡ step_of p h → neg_ℤ (worth e) ≡ value_of_move p h
  value_of_turn step_is = grind arith

  -- a move leaves fewer moves
  module _ (equal : HasEqualSides p) (legal : Contains (legal_houses p) h) where
    pub again_fewer : board.Again e ≡ step_of p h → moves_left e < moves_left p
    again_fewer step_is = grind (arith, after_fewer, legal_holds)

    pub turn_fewer : board.Turn e ≡ step_of p h → moves_left e < moves_left p
    turn_fewer step_is = grind (arith, after_fewer, legal_holds, moves_left-swapped, after_equal_sides)

-- ==== A game that goes on has a legal move

-- without a legal house the own row of a game that goes on would be empty
row_empty : (p : Position) → is_over p ≡ false → length (legal_houses p) ≤ 0 → sum p.own ≡ 0
row_empty p going none =
    let each = All-from_get_or (λ x. x ≤ 0) p.own 0 (λ i within. elim (cases_lt 0 _) [
      | inl some ↦
          let at : i + 1 - 1 ≡ i = omega arith in
          let legal = holds_legal p (i + 1) (record { first = omega arith; last = omega arith; some = rw at some }) going in
          absurd (omega arith)
      | inr empty ↦ empty
    ]) in
    omega (arith, sum_by-le (λ x. x) 0 _ each)

pub legal_some : (p : Position) → is_over p ≡ false → 0 < length (legal_houses p)
legal_some p going = grind (arith, row_empty)

-- ==== The value of a move and the worth of what follows

pub final_swapped : (q : Position) → neg_ℤ (final_margin (swapped q)) ≡ final_margin q
final_swapped q = omega (arith, ints)

-- if the mover moves again, the value of a move is the worth of what follows, over or not
pub value_moving_again : (p : Position) (h : ℕ) → moves_again p h ≡ true → value_of_move p h ≡ worth (after p h)
value_moving_again p h again = grind (arith, worth_of_over)

-- with the turn passed, the value of a move is the negative of what follows
pub value_passing : (p : Position) (h : ℕ) → moves_again p h ≡ false → value_of_move p h ≡ neg_ℤ (worth (swapped (after p h)))
value_passing p h turn = grind (arith, cases_Bool, worth_of_over, final_swapped)

-- the best house is legal, and attains the worth
pub best_found : {p : Position} → HasEqualSides p → is_over p ≡ false
    → Contains (legal_houses p) (best_house p) × (int_eq (value_of_move p (best_house p)) (worth p) ≡ true)
best_found {p} equal going =
    let best = greatest_reached _ (legal_houses p) (legal_some p going) in
    let attains = best.2 ∙ sym (worth_of_going equal going) in
    find_passes _ (legal_houses p) _ best.1 (int_eq-same attains)

pub best_attains : {p : Position} → HasEqualSides p → is_over p ≡ false → value_of_move p (best_house p) ≡ worth p
best_attains {p} equal going = grind (arith, best_found)

pub value_most : (p : Position) (h : ℕ) → HasEqualSides p → is_over p ≡ false → Contains (legal_houses p) h
    → value_of_move p h ≤ℤ worth p
value_most p h equal going legal =
    let at = get_or_default _ legal.0 0 h legal.1 ∙ legal.2 in
    rw (worth_of_going equal going) (rw at at (greatest_is_most (value_of_move p) _ legal.0 legal.1))

pub worth_is_most_of_moves : WorthIsMostOfMoves
worth_is_most_of_moves p equal going = record {
  reached = (best_house p, (best_found equal going).0, best_attains equal going);
  most = λ h legal. value_most _ _ equal going legal;
}

pub ruleset worth_is_greatest_value = (worth_of_over, worth_of_going, worth_is_most_of_moves, legal_some, count_plays_no_part)

-- ==== Stores do not influence play

-- the final margin is shifted by what was added
final-store_seeds : (a b : ℕ) (p : Position) → final_margin (with_store_seeds a b p) ≡ final_margin p +ℤ (pos a -ℤ pos b)
final-store_seeds a b p = omega (arith, ints)

-- one of two shifted numbers
shift_either : (first : Bool) (d : ℤ) {x y : ℤ} (x' y' : ℤ) → x ≡ x' +ℤ d → y ≡ y' +ℤ d
    → (if first then x else y) ≡ (if first then x' else y') +ℤ d
shift_either first d x' y' one two = grind arith

-- the opponent's value is shifted the other way
shift_turned : (a b : ℕ) (u' : ℤ) {u : ℤ} → u ≡ u' +ℤ (pos b -ℤ pos a) → neg_ℤ u ≡ neg_ℤ u' +ℤ (pos a -ℤ pos b)
shift_turned a b u' u_is = omega (arith, ints)

-- a value by a worth that stores shift is shifted
value-store_seeds : (v w : Position → ℤ) (a b : ℕ) (p : Position) (h : ℕ)
    → v (with_store_seeds a b (after p h)) ≡ w (after p h) +ℤ (pos a -ℤ pos b)
    → v (with_store_seeds b a (swapped (after p h))) ≡ w (swapped (after p h)) +ℤ (pos b -ℤ pos a)
    → value_by v (with_store_seeds a b p) h ≡ value_by w p h +ℤ (pos a -ℤ pos b)
value-store_seeds v w a b p h again turn = grind (arith, after-store_seeds, shift_either, shift_turned, final-store_seeds)

worth_zero : (p : Position) → worth_within zero p ≡ final_margin p
unfolding worth_within
worth_zero p = refl

-- the worth is shifted by what was added, for any count of moves
worth-store_seeds : (n a b : ℕ) (p : Position) → worth_within n (with_store_seeds a b p) ≡ worth_within n p +ℤ (pos a -ℤ pos b)
worth-store_seeds zero a b p = simp (worth_zero, final-store_seeds)
worth-store_seeds (suc n) a b p = elim (cases_Bool _) [
  | inl over ↦ worth_within-over (suc n) _ over ∙ final-store_seeds a b p
      ∙ ap (λ z. z +ℤ (pos a -ℤ pos b)) (sym (worth_within-over _ p over))
  | inr going ↦
      worth_within-going n _ going ∙ greatest_shift _ (value_by (worth_within n) p) _ (legal_houses p) (legal_some p going)
      (λ h. value-store_seeds (worth_within n) (worth_within n) a b p h (worth-store_seeds n a b _) (worth-store_seeds n b a _))
      ∙ ap (λ z. z +ℤ (pos a -ℤ pos b)) (sym (worth_within-going n p going))
]

-- the worth is shifted by what was added
worth_shift : (a b : ℕ) (p : Position) → worth (with_store_seeds a b p) ≡ worth p +ℤ (pos a -ℤ pos b)
unfolding worth
worth_shift a b p = worth-store_seeds _ a b p

-- the margin of best play is that of the houses, moved by the stores
pub worth_of_houses : (p : Position) → worth p ≡ houses_worth (houses_in p) +ℤ (pos p.own_store -ℤ pos p.other_store)
worth_of_houses p = ap worth (storeless-store_seeds p) ∙ worth_shift _ p.other_store _

-- the same with the stores in front
pub worth_by_stores : (p : Position) → worth p ≡ pos p.own_store -ℤ pos p.other_store +ℤ houses_worth (houses_in p)
worth_by_stores p = omega (arith, ints, worth_of_houses p)

int_eq_shift : (x y d : ℤ) → int_eq (x +ℤ d) (y +ℤ d) ≡ int_eq x y
int_eq_shift x y d = grind (arith, ints)

-- the best house is the same, for any stores added
best-store_seeds : (a b : ℕ) (p : Position) → best_house (with_store_seeds a b p) ≡ best_house p
best-store_seeds a b p = ap (λ o. unwrap_or o 0) (find_same _ _ (legal_houses p) (λ h.
    let value = value-store_seeds worth worth a b p h (worth_shift a b _) (worth_shift b a _) in
    rw (value, worth_shift a b p) (int_eq_shift _ (worth p) _)))

-- the best house is that of the houses
pub best_of_houses : (p : Position) → best_house p ≡ best_house (storeless (houses_in p))
best_of_houses p = ap best_house (storeless-store_seeds p) ∙ best-store_seeds p.own_store _ (storeless (houses_in p))

-- the value of a move is that of the move of the houses, moved by the stores
pub value_of_houses : (p : Position) (h : ℕ)
    → value_of_move p h ≡ value_of_move (storeless (houses_in p)) h +ℤ (pos p.own_store -ℤ pos p.other_store)
value_of_houses p h =
    let a = p.own_store in
    let b = p.other_store in
    let q = after _ h in
    ap (λ (o : Position). value_of_move o h) (storeless-store_seeds p)
    ∙ value-store_seeds worth worth a b _ h (worth_shift a b q) (worth_shift b a _)

-- ==== What a step of houses is worth, and where it leads

-- what a step is worth to the mover, if best play follows
abbrev pub worth_of_step : HousesStep → ℤ
worth_of_step (Over own other) = pos own -ℤ pos other
worth_of_step (Again gained b) = pos gained +ℤ houses_worth b
worth_of_step (Turn gained b) = pos gained -ℤ houses_worth b

-- the houses b go on from a, with `gained` seeds fewer
pub record LeadsOnAt (a : HousesState) (gained : ℕ) (b : HousesState) : Type 0 where
  pub kept : gained + total_seeds b ≡ total_seeds a
  pub fewer : moves_left (storeless b) < moves_left (storeless a)
  pub going : is_over (storeless b) ≡ false
  pub limits : AreWithinLimits b
  pub same : variant_of b ≡ variant_of a

-- the houses to which a step leads go on from a, and at the end of the game no seed is lost
abbrev pub LeadsOn : HousesState → HousesStep → Type 0
LeadsOn a (Over own other) = own + other ≡ total_seeds a
LeadsOn a (Again gained b) = LeadsOnAt a gained b
LeadsOn a (Turn gained b) = LeadsOnAt a gained b

-- the most moves that are left after a step
abbrev pub moves_after : HousesStep → ℕ
moves_after (Over own other) = 0
moves_after (Again gained b) = moves_left (storeless b)
moves_after (Turn gained b) = moves_left (storeless b)

-- ==== The step that a move of a house makes, and what it is worth

-- ---- what a move is worth
-- if the other store is empty, a position is worth the own store and its houses
worth_again : (q : Position) → q.other_store ≡ 0 → worth q ≡ pos q.own_store +ℤ houses_worth (houses_in q)
worth_again q none = omega (arith, ints, worth_of_houses q)

-- the same if the turn passes
worth_turn : (q : Position) → q.other_store ≡ 0
    → neg_ℤ (worth (swapped q)) ≡ pos q.own_store -ℤ houses_worth (houses_in (swapped q))
worth_turn q none = omega (arith, ints, worth_of_houses (swapped q))

-- what a position after a move is worth, by its step
worth_by_step : (q : Position) (again : Bool) → q.other_store ≡ 0
    → (if is_over q then final_margin q else (if again then worth q else neg_ℤ (worth (swapped q)))) ≡ worth_of_step
    (houses_step_to q again)
worth_by_step q again none = grind (arith, cases_Bool, worth_again, worth_turn)

-- what a move is worth, by its step
pub value_is : (a : HousesState) (h : ℕ) → AreWithinLimits a → IsLegal a h
    → value_of_move (storeless a) h ≡ worth_of_step (houses_step a h)
value_is a h limits legal = worth_by_step (after _ h) _ (after_keeps limits (legal_holds _ legal)).other_store

-- ---- where it leads
-- each step leads to houses of the same variant with fewer moves left
pub leads_on : (a : HousesState) (h : ℕ) → AreWithinLimits a → IsLegal a h → LeadsOn a (houses_step a h)
leads_on a h limits legal =
    let holds = legal_holds _ legal in
    let q = after _ h in
    let keeps = after_keeps limits holds in
    let fewer = after_fewer holds (record { same = limits.same_side }) in
    let play = keeps.play in
    let within = after_within limits holds in
    let rule = ap rule_bit keeps.rule in
    cond_both (is_over q) _ _ (LeadsOn a) (omega arith) (λ going. cond_both (moves_again (storeless a) h) _ _ (LeadsOn a)
    (λ again. record {
      kept = omega arith;
      fewer = fewer;
      going = going;
      limits = within;
      same = omega arith;
    }) (λ turn. record {
      kept = omega arith;
      fewer = omega (arith, moves_left-swapped {p = q} (omega arith));
      going = is_over-swapped q ∙ going;
      limits = swapped_within q within;
      same = omega arith;
    }))

-- a step that was played leads there
pub played_leads_on : {a : HousesState} {h : ℕ} {s : HousesStep} → AreWithinLimits a → IsLegal a h → s ≡ houses_step a h → LeadsOn a s
played_leads_on {a} {h} limits legal step_is = grind (arith, leads_on)

-- ---- what the search needs of a step
-- the step of a legal move goes on in the variant
pub goes_on : {a : HousesState} {variant h : ℕ} {s : HousesStep} → variant_of a ≡ variant → AreWithinLimits a → IsLegal a h
    → s ≡ houses_step a h → IsStepInVariant variant s
goes_on {s = s} variant_is limits legal step_is = let leads = played_leads_on limits legal step_is in grind arith

-- the step of a legal move leaves fewer moves
pub step_falls : {a : HousesState} {h : ℕ} {s : HousesStep} → AreWithinLimits a → IsLegal a h → s ≡ houses_step a h
    → moves_after s < moves_left (storeless a)
step_falls {a} {h} {s} limits legal step_is =
    let leads = played_leads_on limits legal step_is in
    grind (arith, after_fewer, legal_holds)
