-- The moves that the search has tried, and those that wait for it.
-- A legal move is in one of four states, and each loop keeps a record of all moves:
-- to be tried: in the set of `bound_into_store`; all others that end in the store were tried (`AreTriedIntoStore`);
-- to be played: in the set of `try_remaining`; all others that don't end in the store wait or were tried (`ArePlayed`);
-- waiting: its turn must be searched (`AreTurns`; `AreWaiting` once all were played);
-- tried: it wins at most `most`, a bound for all that were tried. In `bound_by_moves` all that don't wait were tried (`AreUntried`).
use Rattle.std.proofs.{Common.{◌≡◌, ℕ, ◌+◌, ◌*◌, ◌-◌, ◌<◌, ◌≤◌, inl, inr, List, get_or, arith, refl, sym, ap, ◌∙◌, length, subst, ◌↔◌, Bool, false, IsTrue, Contains, ◌%◌, max, slice_set}, lemmas.{Bool.{cases_lt, cases_eq}, List.{get_or-set_same, get_or-set_other, get_or_default, get_or_past, set_past}}}
use Rattle.kalah_solve.specs.{cell, IsLastIn, without_house, IsSoftBound, WinsAtMost, IsTurnOf, AreTurns, AreWaiting, ArePlaced, IsEmpty, IsTaken, IsStepInVariant, won, won_by_step}
use Rattle.kalah_solve.proofs.{HouseSetLemmas.{AreMovable, EachOutside, cell_of_zero, into_store_legal, seeded_is_legal, movable_before_last, each_before_last, each_outside_without_last}, WorthLemmas.{LeadsOnAt, played_leads_on, moves_after, goes_on, step_falls}, BoundsLemmas.{won_at_most, won_of_houses, won_reached}}
use Rattle.kalah_rules.specs.{Position.{HousesState, AreWithinLimits, total_seeds, is_over, storeless}, Sowing.{EndsDirectlyInStore}, Measure.{moves_left}, Key.{variant_of}, HousesStep.{houses_step}, declared.step.HousesStep.{HousesStep, TheVariants.{Turn}}}
use Rattle.kalah_rules.proofs.PlayLemmas.{IsLegal, legal_holds}

-- ==== The measure of a call (`Invariants.antt` of the search)

-- On the same houses each function calls only those of a lower rank: a step calls `bound`, that calls `bound_by_search`, and so on. The two
-- that play moves call higher ones, for houses with fewer moves left; five for each move is more than any rank.
abbrev pub rank_of_play : ℕ
rank_of_play = 0

abbrev pub rank_of_moves : ℕ
rank_of_moves = 1

abbrev pub rank_of_search : ℕ
rank_of_search = 2

abbrev pub rank_of_bound : ℕ
rank_of_bound = 3

abbrev pub rank_of_step : ℕ
rank_of_step = 4

-- the measure of a call to a function of this rank
abbrev pub measure : (moves rank : ℕ) → ℕ
measure moves rank = 5 * moves + rank

-- a call for houses with fewer moves left has a lower measure
pub lower_measure : {m n t : ℕ} (called caller : ℕ) → measure n caller ≡ t → m < n → called ≤ rank_of_step → measure m called < t
lower_measure called caller is fewer last = omega arith

-- the call for the step of a move that is played: its measure is lower, and the step goes on in the variant
pub step_called : {a : HousesState} {variant h t : ℕ} {s : HousesStep} → AreWithinLimits a → IsLegal a h → variant_of a ≡ variant
    → s ≡ houses_step a h → measure (moves_left (storeless a)) rank_of_play ≡ t
    → (measure (moves_after s) rank_of_step < t) × IsStepInVariant variant s
step_called limits legal variant_is step is = grind (arith, step_falls, goes_on)

-- ==== Bounds that are enough, and bounds that fall short

-- the meaning of a failed test
pub below_if_test_fails : {r : Bool} {beta x : ℕ} → (IsTrue r ↔ beta ≤ x) → r ≡ false → x < beta
below_if_test_fails says fails = grind arith

-- a bound is at most the greater of `beta` and the number
pub bound_le_max : {beta number bound : ℕ} → IsSoftBound beta number bound → bound ≤ max beta number
bound_le_max {beta} {number} {bound} bounded = grind arith

-- one that is enough, and is no more than the number, is a bound of it
soft_if_enough : {beta number bound : ℕ} → beta ≤ bound → bound ≤ number → IsSoftBound beta number bound
soft_if_enough enough low = record { lower = λ e. low; upper = λ short. omega arith }

-- the most of some bounds that fall short falls short too, unless it is 0
short_stays : {beta most bound new : ℕ} → (beta ≤ most → most ≡ 0) → bound < beta → new ≡ max most bound → beta ≤ new → new ≡ 0
short_stays low short new_is enough = omega arith

-- what is left of all is bounded by what the bound of the opponent leaves
pub bound_of_rest : {beta number bound all seeds : ℕ} (gained : ℕ) → all ≡ gained + seeds → number ≤ seeds
    → IsSoftBound (all - beta + 1) number bound → IsSoftBound beta (gained + (seeds - number)) (all - bound)
bound_of_rest {beta} {bound = bound} {all} gained all_is few b = grind arith

-- a bound of a move that is enough is no more than best play wins
pub enough_is_won : {a : HousesState} {beta h bound : ℕ} → AreWithinLimits a → IsLegal a h
    → IsSoftBound beta (won_by_step (houses_step a h)) bound → beta ≤ bound → bound ≤ won a
enough_is_won {a} {h = h} limits legal bounded enough = omega (arith, won_at_most limits h legal)

-- ==== Turns that wait, and what the reply to one leaves

-- a legal house whose step is a turn
pub step_is_turn : {a b : HousesState} {h gained : ℕ} → AreWithinLimits a → IsLegal a h → Turn gained b ≡ houses_step a h → IsTurnOf a h b
step_is_turn {a} {b} {h} {gained} limits legal step_is =
    let on = played_leads_on limits legal step_is in
    let brought : gained ≡ total_seeds a - total_seeds b = omega arith in
    record { legal = legal; step = sym step_is ∙ ap (λ g. Turn g b) brought }

-- the place that a priority names is one of those of the turns
pub place_inside : {priorities : List ℕ} {turns : List HousesState} {priority : ℕ} → ArePlaced priorities turns
    → Contains priorities priority → 0 < priority → priority % 8 < 6
place_inside {priority = priority} placed found some =
    let at = get_or_default _ found.0 0 priority found.1 ∙ found.2 in
    omega (arith, at, placed.inside found.0 (omega (arith, at)), placed.named found.0 (omega (arith, at)))

-- a cell that was set to 0 holds 0
none_at : (xs : List ℕ) (at : ℕ) → get_or (slice_set xs at 0) at 0 ≡ 0
none_at xs at = grind (arith, cases_lt, get_or-set_same, set_past, get_or_past)

-- the turns that wait, with one more
turns_with_one_more : {a b : HousesState} (at v : ℕ) {priorities : List ℕ} {turns : List HousesState} → AreTurns a priorities turns
    → ArePlaced priorities turns → at < 6 → IsTurnOf a (at + 1) b → AreTurns a (slice_set priorities at v) (slice_set turns at b)
turns_with_one_more at v waiting placed inside turn k some d = grind (arith, cases_eq, get_or-set_same, get_or-set_other)

-- the turns that wait, without one that was taken out
turns_without_one : (a : HousesState) (priorities : List ℕ) (turns : List HousesState) (at : ℕ) → AreTurns a priorities turns
    → AreTurns a (slice_set priorities at 0) turns
turns_without_one a priorities turns at waiting k some d = elim (cases_eq k at) [
  | inl same ↦ absurd (omega (arith, rw same at some, none_at priorities at))
  | inr other ↦ waiting k (rw (get_or-set_other priorities at k 0 0 other) at some) d
]

-- what is taken out of them is a turn
pub taken_is_turn : {a b : HousesState} {priorities rest : List ℕ} {turns : List HousesState} → AreTurns a priorities turns
    → (taken : IsTaken priorities turns b rest) → IsTurnOf a (taken.at + 1) b
taken_is_turn {a} {b} waiting taken = subst (IsTurnOf a _) (sym taken.turn_is) (waiting taken.at taken.some b)

-- One that was taken out, of all `seeds`, by a bound of what the opponent wins after it; `left` and one more were asked of that player.
module _ {a b : HousesState} {priorities rest : List ℕ} {turns : List HousesState} {bound seeds left : ℕ} (beta : ℕ)
    (limits : AreWithinLimits a) (waiting : AreTurns a priorities turns) (taken : IsTaken priorities turns b rest)
    (seeds_are : seeds ≡ total_seeds a) (left_is : left ≡ seeds - beta) (bounded : IsSoftBound (left + 1) (won b) bound) where
  turn_taken : IsTurnOf a (taken.at + 1) b
  turn_taken = taken_is_turn waiting taken

  -- it leads on to the houses that it leaves
  leads : LeadsOnAt a (total_seeds a - total_seeds b) b
  leads = played_leads_on limits turn_taken.legal (sym turn_taken.step)

  -- the opponent wins at most what is in houses
  reply_few : won b ≤ total_seeds b
  reply_few = (won_of_houses leads.limits).few

  -- what the reply leaves is a bound of the turn
  pub reply_left : IsSoftBound beta (won_by_step (houses_step a (taken.at + 1))) (seeds - bound)
  reply_left = rw (turn_taken.step, seeds_are) (bound_of_rest _ (omega (arith, leads.kept)) reply_few (rw (left_is, seeds_are) at bounded))

  pub reply_fits : bound ≤ seeds
  reply_fits = grind (arith, cases_lt, reply_few, leads)

  -- what is left of them is a bound of what best play wins, if it is enough
  pub turn_enough : beta ≤ seeds - bound → IsSoftBound beta (won a) (seeds - bound)
  turn_enough enough = soft_if_enough enough (enough_is_won limits turn_taken.legal reply_left enough)

-- ==== The remaining moves, played one by one

-- the houses of the set may be moved. What waits are turns, and each other move of a house outside the set wins at most `most` seeds, or
-- ends in the store
pub record ArePlayed (a : HousesState) (beta most mask : ℕ) (priorities : List ℕ) (turns : List HousesState) : Type 0 where
  pub short_or_zero : beta ≤ most → most ≡ 0
  pub movable : AreMovable a mask
  pub waiting : AreTurns a priorities turns
  pub others : EachOutside a mask (λ i. get_or priorities (i - 1) 0 ≡ 0 → ¬ EndsDirectlyInStore a i → WinsAtMost a most i)

-- before any was played
pub played_at_start : {a : HousesState} {beta mask : ℕ} {priorities : List ℕ} {turns : List HousesState} → AreWithinLimits a
    → is_over (storeless a) ≡ false → IsEmpty priorities
    → ((i : ℕ) → (0 < cell mask i) ↔ ((0 < get_or a.own i 0) × ¬ EndsDirectlyInStore a (i + 1)))
    → ArePlayed a beta 0 mask priorities turns
played_at_start {a} limits going empty members = record {
  short_or_zero = λ enough. refl;
  movable = record { legal = λ i some. seeded_is_legal i limits going ((members i).0 some).0 };
  waiting = λ k some d. absurd (omega (arith, empty k));
  others = λ i legal outside none apart. absurd (
      let holds = legal_holds (storeless a) legal in
      let at : i - 1 + 1 ≡ i = omega arith in
      let some = (members _).1 (holds.some, λ ends. apart (subst (EndsDirectlyInStore a) at ends)) in
      omega arith);
}

module _ {a : HousesState} {beta most mask : ℕ} {priorities : List ℕ} {turns : List HousesState}
    (played : ArePlayed a beta most mask priorities turns) where
  -- the last house of the set was played
  module _ {h rest : ℕ} (popped : IsLastIn mask h × (rest ≡ without_house mask h)) where
    -- it waits at its place
    pub played_and_waits : (at v : ℕ) {b : HousesState} {new_priorities : List ℕ} {new_turns : List HousesState}
        → ArePlaced priorities turns → at + 1 ≡ h → 0 < v → IsTurnOf a h b → new_priorities ≡ slice_set priorities at v
        → new_turns ≡ slice_set turns at b → ArePlayed a beta most rest new_priorities new_turns
    played_and_waits at v {b} placed place some turn priorities_are turns_are =
        let at_is : h - 1 ≡ at = omega arith in
        let low : at < 6 = omega (arith, popped.0.last) in
        let inside : at < length priorities = omega (arith, placed.cells) in
        rw (popped.1, priorities_are, turns_are) (record {
          short_or_zero = played.short_or_zero;
          movable = movable_before_last played.movable popped.0;
          waiting = turns_with_one_more at v played.waiting placed low (rw (sym place) at turn);
          others = each_outside_without_last a
              (λ i. get_or (slice_set priorities at v) (i - 1) 0 ≡ 0 → ¬ EndsDirectlyInStore a i → WinsAtMost a most i) popped.0
              (λ none apart. absurd (omega (arith, rw at_is at none, get_or-set_same priorities at v 0 inside)))
              (λ i legal other outside none apart. played.others i legal outside
              (rw (get_or-set_other priorities at _ v 0 (rw at_is at other)) at none) apart);
        })

    -- it wins at most `bound`, which falls short
    pub played_and_bounded : (bound new : ℕ) → WinsAtMost a bound h → bound < beta → new ≡ max most bound
        → ArePlayed a beta new rest priorities turns
    played_and_bounded bound new at_most short new_is = rw popped.1 (record {
      short_or_zero = short_stays played.short_or_zero short new_is;
      movable = movable_before_last played.movable popped.0;
      waiting = played.waiting;
      others = each_outside_without_last a (λ i. get_or priorities (i - 1) 0 ≡ 0 → ¬ EndsDirectlyInStore a i → WinsAtMost a new i) popped.0
          (λ none apart. omega arith) (λ i legal place outside none apart. omega arith);
    })

  -- a move that wins enough makes the others needless
  pub played_enough : {bound : ℕ} → beta ≤ bound → bound ≤ won a → AreWaiting a beta bound priorities turns
  played_enough enough low = grind arith

  -- once the set is empty, all were played
  pub all_played : mask ≡ 0 → AreWaiting a beta most priorities turns
  all_played none = grind (arith, cell_of_zero)

-- ==== The moves that end in the store, tried one by one

-- the houses of the set may be moved and end in the store. Each one outside it that does wins at most `most` seeds
pub record AreTriedIntoStore (a : HousesState) (beta most mask : ℕ) : Type 0 where
  pub short_or_zero : beta ≤ most → most ≡ 0
  pub movable : AreMovable a mask
  pub ends : (i : ℕ) → 0 < cell mask i → EndsDirectlyInStore a (i + 1)
  pub tried : EachOutside a mask (λ h. EndsDirectlyInStore a h → WinsAtMost a most h)

-- before any was tried
pub tried_at_start : {a : HousesState} {beta mask : ℕ} → AreWithinLimits a → is_over (storeless a) ≡ false
    → ((i : ℕ) → (0 < cell mask i) ↔ ((i < length a.own) × EndsDirectlyInStore a (i + 1))) → AreTriedIntoStore a beta 0 mask
tried_at_start {a} limits going members = record {
  short_or_zero = λ enough. refl;
  movable = record { legal = λ i some. let both = (members i).0 some in into_store_legal i limits going both.0 both.1 };
  ends = λ i some. ((members i).0 some).1;
  tried = λ h legal outside ends. absurd (
      let holds = legal_holds (storeless a) legal in
      let at : h ≡ h - 1 + 1 = omega arith in
      let some = (members _).1 (omega arith, subst (EndsDirectlyInStore a) at ends) in
      omega arith);
}

-- the last one of the set was tried, and falls short
pub tried_without_last : {a : HousesState} {beta most mask h rest : ℕ} (bound new : ℕ) → AreTriedIntoStore a beta most mask
    → IsLastIn mask h × (rest ≡ without_house mask h) → WinsAtMost a bound h → bound < beta → new ≡ max most bound
    → AreTriedIntoStore a beta new rest
tried_without_last {a} bound new before popped at_most short new_is = rw popped.1 (record {
  short_or_zero = short_stays before.short_or_zero short new_is;
  movable = movable_before_last before.movable popped.0;
  ends = each_before_last (EndsDirectlyInStore a) popped.0 before.ends;
  tried = each_outside_without_last a (λ i. EndsDirectlyInStore a i → WinsAtMost a new i) popped.0 (λ ends. omega arith)
      (λ i legal place outside ends. omega arith);
})

-- once the set is empty, all were tried
pub all_tried : {a : HousesState} {beta most mask : ℕ} → AreTriedIntoStore a beta most mask → mask ≡ 0 → (h : ℕ) → IsLegal a h
    → EndsDirectlyInStore a h → WinsAtMost a most h
all_tried tried none h legal = tried.tried h legal (rw none (cell_of_zero (h - 1)))

-- ==== The turns that waited, tried by their priority

-- the turns that wait are still to be tried, and the other moves win at most `most` seeds, which falls short
pub record AreUntried (a : HousesState) (beta most : ℕ) (priorities : List ℕ) (turns : List HousesState) : Type 0 where
  pub short : most < beta
  pub waiting : AreTurns a priorities turns
  pub tried : (h : ℕ) → IsLegal a h → get_or priorities (h - 1) 0 ≡ 0 → WinsAtMost a most h

-- before any of them was tried: all others were
pub untried_at_start : {a : HousesState} {beta others new : ℕ} {priorities : List ℕ} {turns : List HousesState} (into_store : ℕ)
    → AreWaiting a beta others priorities turns → ((h : ℕ) → IsLegal a h → EndsDirectlyInStore a h → WinsAtMost a into_store h)
    → into_store < beta → others < beta → new ≡ max into_store others → AreUntried a beta new priorities turns
untried_at_start into_store waiting ends into_short short new_is = grind arith

-- one was taken out and tried, and falls short
pub untried_fewer : {a b : HousesState} {beta most new : ℕ} {priorities rest : List ℕ} {turns left : List HousesState} (bound : ℕ)
    → AreUntried a beta most priorities turns → (taken : IsTaken priorities turns b rest) → left ≡ turns
    → WinsAtMost a bound (taken.at + 1) → bound < beta → new ≡ max most bound → AreUntried a beta new rest left
untried_fewer {a} {priorities = priorities} {turns = turns} bound untried taken left_are at_most short new_is =
    rw (taken.rest_is, left_are) (record {
      short = omega (arith, untried.short);
      waiting = turns_without_one a priorities turns taken.at untried.waiting;
      tried = λ h legal none. elim (cases_eq (h - 1) taken.at) [
        | inl same ↦
            let first = (legal_holds (storeless a) legal).first in
            let house : taken.at + 1 ≡ h = omega arith in
            omega (arith, subst (WinsAtMost a bound) house at_most)
        | inr other ↦ omega (arith, untried.tried h legal (rw (get_or-set_other priorities taken.at _ 0 0 other) at none))
      ];
    })

-- once none waits, `most` is a bound of what best play wins
pub none_untried : {a : HousesState} {beta most : ℕ} {priorities : List ℕ} {turns : List HousesState} → AreWithinLimits a
    → is_over (storeless a) ≡ false → AreUntried a beta most priorities turns → IsEmpty priorities → IsSoftBound beta (won a) most
none_untried {a} {most = most} limits going untried none = grind (arith, won_reached)
