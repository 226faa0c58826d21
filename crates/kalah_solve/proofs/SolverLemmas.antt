-- Games, best play, and what a solver says of it.
use Rattle.std.proofs.Common.{zero, suc, ◌≡◌, ℕ, ◌<◌, ◌≤◌, inl, inr, List, [], ◌∷◌, length, get_or, arith, ap, sym, subst, ◌∙◌, refl, ◌+◌, w32, to_z, of_z, FitsSigned, false, Contains, ℤ, ◌≤ℤ◌, nat_lt, neg_ℤ, true, map, pos, ◌<ℤ◌, find, option_map, ◌+ℤ◌, ◌-ℤ◌, int_eq}
use Rattle.std.proofs.lemmas.{Bool.{both_ways, cases_Bool, cases_eq, cond_both}, Int.{ints, clamps}, List.{get_or_default, map-id, Elements.{All-map, All-from_get_or, Contains-get_or}}, Simd.{map-map}}
use Rattle.kalah_rules.specs.{Limits.{most_houses}, Position.{Position, HasEqualSides, is_over, swapped, final_margin, side_length, seeds, IsWithinLimits, IsMarginInRange, HousesState, AreWithinLimits, houses_in, storeless}, Play.{legal_houses}, Measure.{moves_left}, HousesStep.{houses_step}}
use Rattle.kalah_rules.proofs.{PlayLemmas.{IsLegal, legal_holds, after_equal_sides, after_fewer, find_first, moves_left-swapped}, StepLemmas.{houses_within, is_over-swapped}}
use Rattle.kalah_solve.specs.{worth, value_of_move, best_house, houses_worth}
use Rattle.kalah_solve.specs.{Strategy, IsStrategy, Policy, follow, Game, Secures, HoldsTo, IsBestPlay, IsBestMove, IsWorthOfMove}
use Rattle.kalah_solve.specs.{verdict_of, StatesBestPlay}
use Rattle.kalah_solve.specs.{EndsInTime, StrategiesPlayAGame, StrategiesPlayOneGame, GamesEnd, WorthIsBestPlay, BestPlayIsOne}
use Rattle.kalah_solve.specs.{BestHouseIsBestPlay, EndsWithAtLeast, EndsWithAtMost, BestPlayAgainstStrategies, BestHouseIsLowest}
use Rattle.kalah_solve.specs.{BestMovesAttain, BestVerdictIsOne}
use Rattle.kalah_solve.specs.{AreValuesByBestPlay, ValueIsWorthOfMove, WorthOfMoveIsOne, ValuesTellVerdict, move_value, values_of}
use Rattle.kalah_solve.specs.{IsMoveValue, least_margin, most_margin, clamped, won, won_by_step}
use Rattle.kalah_solve.specs.Solver.BestPlay.Game.{is_at_end, moves_on, passes_turn}
use Rattle.kalah_solve.specs.declared.solver.{Verdict.{Verdict, TheVariants.{Best, Over}}, move_values.MoveValue.{MoveValue}}
use Rattle.kalah_solve.proofs.{ListLemmas.{find_lowest, greatest_reached}, WorthLemmas.{swapped_equal_sides, over_at_end, worth_of_over, final_swapped, value_moving_again, value_passing, best_found, best_attains, value_most, int_eq-same, worth_of_going, int_eq-lower, worth_of_houses, value_of_houses}, BoundsLemmas.{won_of_houses, won_of_move, won_at_most}}
use Rattle.lru.proofs.Splits.{Contains-head}

-- ==== The games that players play

-- a policy whose houses are all of a wider policy
pub record IsWithin (policy wider : Policy) : Type 0 where
  pub widens : {p : Position} {h : ℕ} → HasEqualSides p → is_over p ≡ false → Contains (policy p) h → Contains (wider p) h

same_policy : {policy : Policy} → IsWithin policy policy
same_policy {policy} = grind arith

pub strategy_within : {s : Strategy} → IsStrategy s → IsWithin (follow s) legal_houses
strategy_within {s} lawful = grind arith

-- two strategies play a game to its end, if at most n moves are left
ends_within : (n : ℕ) (mine theirs : Strategy) → IsStrategy mine → IsStrategy theirs → (p : Position) → HasEqualSides p
    → moves_left p ≤ n → (houses : List ℕ) × (final : Position) × Game (follow mine) (follow theirs) p houses final
ends_within zero mine theirs mine_lawful theirs_lawful p equal few = ([], p, is_at_end (over_at_end p (omega arith)))
ends_within (suc n) mine theirs mine_lawful theirs_lawful p equal few = elim (cases_Bool _) [
  | inl over ↦ ([], p, is_at_end over)
  | inr going ↦
      let fewer = after_fewer (legal_holds p (mine_lawful.moves p equal going)) equal in
      let next_equal = after_equal_sides p _ in
      elim (cases_Bool _) [
        | inl again ↦
            let rest = ends_within n mine theirs mine_lawful theirs_lawful _ next_equal (omega arith) in
            (mine p ∷ rest.0, rest.1, moves_on going (Contains-head _ []) again rest.2)
        | inr turn ↦
            let turned = moves_left-swapped next_equal in
            let rest = ends_within n theirs mine theirs_lawful mine_lawful _ (omega arith) (omega arith) in
            (mine p ∷ rest.0, swapped rest.1, passes_turn going (Contains-head _ []) turn rest.2)
      ]
]

pub strategies_play_a_game : StrategiesPlayAGame
strategies_play_a_game mine theirs mine_lawful theirs_lawful p equal =
    ends_within (moves_left p) mine theirs mine_lawful theirs_lawful p equal (omega arith)

-- each move leaves fewer, and the last position is over
ends_in_time : {mine theirs : Policy} {p : Position} {houses : List ℕ} {final : Position} → IsWithin mine legal_houses
    → IsWithin theirs legal_houses → HasEqualSides p → Game mine theirs p houses final → EndsInTime p houses final
ends_in_time mine_lawful theirs_lawful equal (is_at_end over) = grind arith
ends_in_time {p = p} mine_lawful theirs_lawful equal (moves_on {h = h} going chosen again rest) =
    let fewer = after_fewer (legal_holds p (mine_lawful.widens equal going chosen)) equal in
    let inner = ends_in_time mine_lawful theirs_lawful (after_equal_sides p h) rest in
    record { over = inner.over; short = omega arith }
ends_in_time {p = p} mine_lawful theirs_lawful equal (passes_turn {h = h} {final = final} going chosen turn rest) =
    let fewer = after_fewer (legal_holds p (mine_lawful.widens equal going chosen)) equal in
    let turned = moves_left-swapped (after_equal_sides p h) in
    let inner = ends_in_time theirs_lawful mine_lawful (swapped_equal_sides (after_equal_sides p h)) rest in
    record { over = is_over-swapped final ∙ inner.over; short = omega arith }

pub games_end : GamesEnd
games_end p houses final equal game = ends_in_time same_policy same_policy equal game

-- a policy that has one house at most
pub record HasNoChoice (policy : Policy) : Type 0 where
  pub one : (p : Position) {h k : ℕ} → Contains (policy p) h → Contains (policy p) k → h ≡ k

follow_one : (s : Strategy) → HasNoChoice (follow s)
follow_one s = grind arith

-- two games without a choice are the same
game_is_one : {mine theirs : Policy} {p : Position} {houses others : List ℕ} {final other : Position} → HasNoChoice mine
    → HasNoChoice theirs → Game mine theirs p houses final → Game mine theirs p others other
    → (houses ≡ others) × (final ≡ other)
game_is_one mine_forced theirs_forced (is_at_end _) (is_at_end _) = (refl, refl)
game_is_one mine_forced theirs_forced (is_at_end over) (moves_on going _ _ _) = cc
game_is_one mine_forced theirs_forced (is_at_end over) (passes_turn going _ _ _) = cc
game_is_one mine_forced theirs_forced (moves_on going _ _ _) (is_at_end over) = cc
game_is_one mine_forced theirs_forced (passes_turn going _ _ _) (is_at_end over) = cc
game_is_one mine_forced theirs_forced (moves_on _ chosen again rest) (moves_on _ chosen' again' rest') =
    let e = mine_forced.one _ chosen' chosen in
    let same = game_is_one mine_forced theirs_forced rest (rw e at rest') in
    (cc same.0, same.1)
game_is_one mine_forced theirs_forced (moves_on _ chosen again _) (passes_turn _ chosen' turn _) =
    absurd (let e = mine_forced.one _ chosen' chosen in cc)
game_is_one mine_forced theirs_forced (passes_turn _ chosen turn _) (moves_on _ chosen' again _) =
    absurd (let e = mine_forced.one _ chosen' chosen in cc)
game_is_one mine_forced theirs_forced (passes_turn _ chosen turn rest) (passes_turn _ chosen' turn' rest') =
    let e = mine_forced.one _ chosen' chosen in
    let same = game_is_one theirs_forced mine_forced rest (rw e at rest') in
    (cc same.0, ap swapped same.1)

pub strategies_play_one_game : StrategiesPlayOneGame
strategies_play_one_game mine theirs p houses others final other one two = game_is_one (follow_one mine) (follow_one theirs) one two

pub ruleset players_play_one_game = (strategies_play_a_game, strategies_play_one_game, games_end)

-- a game is one of wider policies, too
pub widened : {mine theirs mine' theirs' : Policy} {p : Position} {houses : List ℕ} {final : Position} → IsWithin mine mine'
    → IsWithin theirs theirs' → HasEqualSides p → Game mine theirs p houses final → Game mine' theirs' p houses final
widened mine_wider theirs_wider equal (is_at_end over) = is_at_end over
widened {p = p} mine_wider theirs_wider equal (moves_on {h = h} going chosen again rest) =
    moves_on going (mine_wider.widens equal going chosen) again (widened mine_wider theirs_wider (after_equal_sides p h) rest)
widened {p = p} mine_wider theirs_wider equal (passes_turn {h = h} going chosen turn rest) =
    passes_turn going (mine_wider.widens equal going chosen) turn
    (widened theirs_wider mine_wider (swapped_equal_sides (after_equal_sides p h)) rest)

-- ==== What players who play best secure

-- a policy that moves only houses of the greatest value
pub record PlaysBest (policy : Policy) : Type 0 where
  pub attains : {p : Position} {h : ℕ} → HasEqualSides p → is_over p ≡ false → Contains (policy p) h
      → value_of_move p h ≡ worth p

-- the player who plays best gets at least the worth, and the opponent of one who does at most that
pub record IsBounded (mine theirs : Policy) (p : Position) (z : ℤ) : Type 0 where
  pub low : PlaysBest mine → worth p ≤ℤ z
  pub high : PlaysBest theirs → z ≤ℤ worth p

-- a game by the rules ends on the right side of the worth for a player who plays best: by induction on its moves, for both players
pub game_is_bounded : {mine theirs : Policy} {p : Position} {houses : List ℕ} {final : Position} → IsWithin mine legal_houses
    → IsWithin theirs legal_houses → HasEqualSides p → Game mine theirs p houses final → IsBounded mine theirs p (final_margin final)
game_is_bounded {p = p} mine_lawful theirs_lawful equal (is_at_end over) = grind (arith, worth_of_over)
game_is_bounded {p = p} {final = final} mine_lawful theirs_lawful equal (moves_on {h = h} going chosen again rest) =
    let inner = game_is_bounded mine_lawful theirs_lawful (after_equal_sides p h) rest in
    let value = value_moving_again p h again in
    let most = value_most p h equal going (mine_lawful.widens equal going chosen) in
    record {
      low = λ best. omega (arith, ints, best.attains equal going chosen);
      high = λ best. omega (arith, ints);
    }
game_is_bounded {p = p} mine_lawful theirs_lawful equal (passes_turn {h = h} {final = final} going chosen turn rest) =
    let inner = game_is_bounded theirs_lawful mine_lawful (swapped_equal_sides (after_equal_sides p h)) rest in
    let value = value_passing p h turn in
    let most = value_most p h equal going (mine_lawful.widens equal going chosen) in
    rw (← final_swapped _) (record {
      low = λ best. omega (arith, ints, best.attains equal going chosen);
      high = λ best. omega (arith, ints);
    })

pub best_is_strategy : IsStrategy best_house
best_is_strategy = record { moves = λ p equal going. (best_found equal going).0 }

pub best_plays : PlaysBest (follow best_house)
best_plays = grind (arith, best_attains)

best_secures : (p : Position) → HasEqualSides p → Secures best_house p (worth p)
best_secures p equal = λ houses final game. (game_is_bounded (strategy_within best_is_strategy) same_policy equal game).low best_plays

best_holds : (p : Position) → HasEqualSides p → HoldsTo best_house p (worth p)
best_holds p equal = λ houses final game. (game_is_bounded same_policy (strategy_within best_is_strategy) equal game).high best_plays

pub best_house_is_best_play : BestHouseIsBestPlay
best_house_is_best_play = grind (arith, best_is_strategy, best_secures, best_holds)

pub worth_is_best_play : WorthIsBestPlay
worth_is_best_play p equal = grind (arith, best_is_strategy, best_secures, best_holds)

-- a game of two strategies is one of either against any play
module _ (mine theirs : Strategy) (mine_lawful : IsStrategy mine) (theirs_lawful : IsStrategy theirs) (p : Position)
    (equal : HasEqualSides p) (v : ℤ) where
  -- what a strategy secures, the game brings
  ends_at_least : Secures mine p v → EndsWithAtLeast mine theirs p v
  ends_at_least secures =
      let game = strategies_play_a_game mine _ mine_lawful theirs_lawful p equal in
      (game.0, game.1, game.2, secures _ game.1 (widened same_policy (strategy_within theirs_lawful) equal game.2))

  -- what a strategy of the opponent allows is the most that the game brings
  ends_at_most : HoldsTo theirs p v → EndsWithAtMost mine theirs p v
  ends_at_most holds =
      let game = strategies_play_a_game mine _ mine_lawful theirs_lawful p equal in
      (game.0, game.1, game.2, holds _ game.1 (widened (strategy_within mine_lawful) same_policy equal game.2))

pub best_play_against_strategies : BestPlayAgainstStrategies
best_play_against_strategies = record {
  secured = λ p equal.
      (best_house, best_is_strategy, λ theirs lawful. ends_at_least _ theirs best_is_strategy lawful p equal _ (best_secures _ equal));
  held = λ p equal.
      (best_house, best_is_strategy, λ mine lawful. ends_at_most mine _ lawful best_is_strategy p equal _ (best_holds _ equal));
}

-- of two margins of best play neither is above the other
secured_at_most : (p : Position) (v w : ℤ) → HasEqualSides p → IsBestPlay p v → IsBestPlay p w → v ≤ℤ w
secured_at_most p v w equal a b =
    let low = ends_at_least _ b.held.0 a.secured.1 b.held.1 p equal v a.secured.2 in
    let high = ends_at_most _ b.held.0 a.secured.1 b.held.1 p equal w b.held.2 in
    let same = ap final_margin (strategies_play_one_game _ b.held.0 p low.0 _ low.1 _ low.2 high.2).1 in
    omega (arith, ints, low.3)

pub best_play_is_one : BestPlayIsOne
best_play_is_one p v w equal a b = omega (arith, ints, secured_at_most p v w equal a b, secured_at_most p w v equal b a)

-- ==== Which moves are best

pub value_is_worth_of_move : ValueIsWorthOfMove
value_is_worth_of_move p h = record {
  again = λ more. subst (IsBestPlay _) (sym (value_moving_again _ _ more)) (worth_is_best_play _ (after_equal_sides p h));
  turn = λ passed.
      let other = swapped _ in
      let same : worth other ≡ neg_ℤ _ = omega (arith, ints, value_passing p h passed) in
      subst (IsBestPlay other) same (worth_is_best_play other (swapped_equal_sides (after_equal_sides p h)));
}

pub worth_of_move_is_one : WorthOfMoveIsOne
worth_of_move_is_one p h v w a b = elim (cases_Bool _) [
  | inl more ↦ best_play_is_one _ v w (after_equal_sides p h) (a.again more) (b.again more)
  | inr passed ↦
      let same = best_play_is_one _ (neg_ℤ v) _ (swapped_equal_sides (after_equal_sides p h)) (a.turn passed) (b.turn passed) in
      omega (arith, ints)
]

-- a legal house that attains the worth is a best move
attaining_is_best : (p : Position) (h : ℕ) → HasEqualSides p → Contains (legal_houses p) h → value_of_move p h ≡ worth p
    → IsBestMove p h (worth p)
attaining_is_best p h equal legal attains = grind (arith, worth_is_best_play, worth, value_is_worth_of_move)

-- each best move attains the worth
attains_if_best : (p : Position) (h : ℕ) → IsBestMove p h (worth p) → value_of_move p h ≡ worth p
attains_if_best p h best = worth_of_move_is_one _ _ _ _ (value_is_worth_of_move p h) best.worth

-- the best house is a best move
best_move : (p : Position) → HasEqualSides p → is_over p ≡ false → IsBestMove p (best_house p) (worth p)
best_move p equal going = attaining_is_best _ _ equal (best_found equal going).0 (best_attains equal going)

-- no lower legal house attains the worth
none_lower_attains : (p : Position) (h : ℕ) → is_over p ≡ false → Contains (legal_houses p) h → value_of_move p h ≡ worth p
    → best_house p ≤ h
none_lower_attains p h going legal attains =
    let lowest = find_lowest (λ k. int_eq (value_of_move p k) (worth p)) (λ i. nat_lt 0 (seeds p.own i)) 1 (side_length p) h
    (rw going at legal) (int_eq-same attains) in
    rw going lowest

pub best_house_is_lowest : BestHouseIsLowest
best_house_is_lowest p equal going = record {
  is_legal = (best_found equal going).0;
  attains = best_attains equal going;
  lowest = λ h is_legal attains. none_lower_attains _ _ going is_legal attains;
}

-- no lower house is a best move
none_lower_is_best : (p : Position) (h : ℕ) → is_over p ≡ false → IsBestMove p h (worth p) → best_house p ≤ h
none_lower_is_best p h going best = none_lower_attains _ _ going best.legal (attains_if_best _ _ best)

pub best_moves_attain : BestMovesAttain
best_moves_attain p h equal = (λ best. (best.legal, attains_if_best _ _ best), λ legal. attaining_is_best _ _ equal legal.0 legal.1)

-- ==== The verdict states best play, and no other does

-- the verdict of a position that is not over, by its parts
pub verdict_of_going : (p : Position) (margin : ℤ) (house : ℕ) → is_over p ≡ false → margin ≡ worth p → house ≡ best_house p
    → Best margin house ≡ verdict_of p
verdict_of_going p margin house going margin_at house_at = cc

-- the verdict of a position that is over
pub verdict_of_over : (p : Position) (margin : ℤ) → is_over p ≡ true → margin ≡ final_margin p → Over margin ≡ verdict_of p
verdict_of_over p margin over margin_is = cc

-- the verdict states how best play ends
pub verdict_states : (p : Position) (v : Verdict) → HasEqualSides p → v ≡ verdict_of p → StatesBestPlay p v
verdict_states p v equal v_is =
    let states = cond_both (is_over p) _ _ (StatesBestPlay p)
    (λ over. record { over = over; final = refl; best_play = rw (worth_of_over p over) at (worth_is_best_play p equal) })
    (λ going. record { going = going; best = best_move p equal going; lowest = λ h best. none_lower_is_best p h going best }) in
    subst (StatesBestPlay p) (sym v_is) states

-- each verdict that states how best play ends is the verdict
stated_is_verdict : (p : Position) (v : Verdict) → HasEqualSides p → StatesBestPlay p v → v ≡ verdict_of p
stated_is_verdict p (Best margin house) equal states =
    let margin_is = best_play_is_one p margin _ equal states.best.best_play (worth_is_best_play p equal) in
    let low = none_lower_is_best p house states.going (rw margin_is at states.best) in
    let high = states.lowest (best_house p) (rw margin_is (best_move p equal states.going)) in
    let house_is : house ≡ best_house p = omega arith in
    cc (margin_is, house_is)
stated_is_verdict p (Over margin) equal states = cc

pub best_verdict_is_one : BestVerdictIsOne
best_verdict_is_one p v w equal one other = grind (arith, stated_is_verdict)

-- ==== The values of the moves determine the verdict

-- the values of the moves are what these secure; if the game is over there are none
pub values_state : (p : Position) → AreValuesByBestPlay p (values_of p)
values_state p = record {
  houses = map-map (λ (v : MoveValue). v.house) (move_value p) _ ∙ map-id _;
  worth = All-map (λ (v : MoveValue). IsWorthOfMove p v.house v.value) (move_value p) _
      (All-from_get_or (λ h. IsWorthOfMove p h (value_of_move p h)) _ 0 (λ i within. value_is_worth_of_move p _));
}

-- the first house with a value
first_with : (p : Position) (m : ℤ) (xs : List ℕ)
    → option_map (λ (v : MoveValue). v.house) (find (λ v. int_eq v.value m) (map (move_value p) xs)) ≡ find
    (λ h. int_eq (value_of_move p h) m) xs
first_with p m [] = refl
first_with p m (x ∷ xs) = elim (cases_Bool (int_eq (value_of_move p x) m)) [
  | inl here ↦ rw here refl
  | inr later ↦ rw later (first_with p m xs)
]

pub values_tell_verdict : ValuesTellVerdict
values_tell_verdict p equal going = grind (arith, map-map, worth_of_going, first_with)

-- ==== The first house that attains the margin of best play, and the margin with the stores

-- in the whole window the answer is the worth
pub whole_window : {a : HousesState} {found lo hi : ℤ} → AreWithinLimits a → lo ≡ least_margin → hi ≡ most_margin
    → found ≡ clamped lo hi (houses_worth a) → found ≡ houses_worth a
whole_window {a} limits lo_is hi_is found_is = omega (arith, ints, clamps, won_of_houses limits)

-- the legal house with index i
abbrev legal_at : HousesState → ℕ → ℕ
legal_at a i = get_or (legal_houses (storeless a)) i 0

-- the first i houses are worth less than the margin of best play
abbrev pub FallShort : HousesState → ℕ → Type 0
FallShort a i = (k : ℕ) → k < i → int_eq (value_of_move (storeless a) (legal_at a k)) (houses_worth a) ≡ false

module _ (a : HousesState) (limits : AreWithinLimits a) where
  -- a house that wins fewer seeds than best play is worth less
  worth_less_if_short : (h : ℕ) → IsLegal a h → won_by_step (houses_step a h) < won a
      → value_of_move (storeless a) h <ℤ houses_worth a
  worth_less_if_short h legal less = grind (arith, won_of_move, won_of_houses)

  -- house i, if those before it fall short
  module _ (i : ℕ) (inside : i < length (legal_houses (storeless a))) (short : FallShort a i) where
    -- is the best house if it is worth the margin
    first_is_best : value_of_move (storeless a) (legal_at a i) ≡ houses_worth a → legal_at a i ≡ best_house (storeless a)
    first_is_best attains = grind (arith, find_first)

    -- or wins as many seeds as best play
    pub first_enough_is_best : won a ≤ won_by_step (houses_step a (legal_at a i)) → legal_at a i ≡ best_house (storeless a)
    first_enough_is_best enough = grind (arith, first_is_best, won_at_most, won_of_move, won_of_houses, Contains-get_or)

    -- and falls short, too, if it wins fewer
    pub one_more_falls_short : won_by_step (houses_step a (legal_at a i)) < won a → FallShort a (i + 1)
    one_more_falls_short less k low = grind (arith, cases_eq, int_eq-lower, worth_less_if_short, Contains-get_or)

  -- if all but the last fall short, it is the last
  pub last_is_best : (n : ℕ) → is_over (storeless a) ≡ false → length (legal_houses (storeless a)) ≡ n + 1 → FallShort a n
      → legal_at a n ≡ best_house (storeless a)
  last_is_best n going many short =
      let one = greatest_reached (value_of_move _) _ (omega arith) in
      let inside = one.1.1 in
      let place = get_or_default (legal_houses (storeless a)) one.1.0 0 one.0 inside ∙ one.1.2 in
      let attains = ap (value_of_move (storeless a)) place ∙ one.2 ∙ sym (worth_of_going (record { same = limits.same_side }) going) in
      elim (cases_eq one.1.0 n) [
        | inl same ↦ first_is_best n (omega arith) short (rw same at attains)
        | inr other ↦ absurd (both_ways _ (short one.1.0 (omega arith)) (int_eq-same attains))
      ]

-- ---- with the stores
-- the worth of houses and the difference of the stores, added in thirty-two bits
abbrev pub margin_in_bits : ℤ → ℕ → ℕ → ℤ
margin_in_bits best own other = to_z w32 (of_z w32 (to_z w32 (of_z w32 best) +ℤ to_z w32 (of_z w32 (to_z w32 own -ℤ to_z w32 other))))

module _ (p : Position) {best : ℤ} {own other : ℕ} (limits : IsWithinLimits p) (best_is : best ≡ houses_worth (houses_in p))
    (own_is : own ≡ p.own_store) (other_is : other ≡ p.other_store) where
  -- the sum is not too large
  pub margin_fits : FitsSigned w32 (to_z w32 (of_z w32 best) +ℤ to_z w32 (of_z w32 (to_z w32 own -ℤ to_z w32 other)))
  margin_fits = omega (arith, ints, won_of_houses (houses_within limits))

  -- nothing is lost
  margin_is : margin_in_bits best own other ≡ best +ℤ (pos p.own_store -ℤ pos p.other_store)
  margin_is = omega (arith, ints, won_of_houses (houses_within limits))

  pub margin_is_worth : margin_in_bits best own other ≡ worth p
  margin_is_worth = margin_is ∙ rw best_is (sym (worth_of_houses p))

  pub margin_is_small : IsMarginInRange (margin_in_bits best own other)
  margin_is_small = omega (arith, ints, margin_is, won_of_houses (houses_within limits))

-- ==== The value of a move, and its house, are numbers that a game can have

-- the value of a move
value_small : {p : Position} {h : ℕ} → IsWithinLimits p → Contains (legal_houses p) h → IsMarginInRange (value_of_move p h)
value_small {p} {h} limits legal = omega (arith, ints, value_of_houses p h, won_of_move (houses_within limits) h legal)

-- a legal house
pub house_small : {p : Position} {h : ℕ} → IsWithinLimits p → Contains (legal_houses p) h → h ≤ most_houses
house_small {p} {h} limits legal = omega (arith, (legal_holds p legal).last)

-- a legal house with the value of its move
pub move_value_small : {p : Position} {h : ℕ} → IsWithinLimits p → Contains (legal_houses p) h → IsMoveValue (move_value p h)
move_value_small {p} {h} limits legal =
    record { first = (legal_holds p legal).first; last = house_small limits legal; small = value_small limits legal }
