-- The game of best play, move by move.
use Rattle.std.proofs.Common.{◌<◌, ◌≤◌, ◌-◌, ◌≡◌, ℕ, zero, suc, List, [], ◌∷◌, ◌++◌, Bool, true, false, inl, inr, of_z, refl, sym}
use Rattle.std.proofs.Common.{to_z, w32, ap, ◌∙◌, arith, Contains, ℤ, None, Option, Some, if◌then◌else◌, unwrap_or}
use Rattle.std.proofs.lemmas.{Bool.{both_ways, cases_Bool}, Int.{ints, to_z-of_z}}
use Rattle.kalah_rules.specs.{Position.{Position, HasEqualSides, is_over, swapped, swept}, Sowing.{after, moves_again}}
use Rattle.kalah_rules.specs.{Measure.{moves_left}, Play.{legal_houses, position_after, step_of}, declared.step.Step.{Step}}
use Rattle.kalah_rules.proofs.{PlayLemmas.{after_equal_sides, legal_going, row_distance_le, sum-zeros}, StepLemmas.{is_over-swapped}}
use Rattle.kalah_rules.specs.declared.step.Step.TheVariants as step
use Rattle.kalah_solve.specs.Solver.BestPlay.{Game, Game.{is_at_end, moves_on, passes_turn}}
use Rattle.kalah_solve.specs.Solver.{Verdict.{IsBestInRange, StatesBestMove, verdict_of}, Worth.{best_house, worth}}
use Rattle.kalah_solve.specs.declared.solver.Verdict.TheVariants.{Best}
use Rattle.kalah_solve.proofs.SolverLemmas.{strategies_play_a_game, best_is_strategy, best_plays, game_is_bounded, strategy_within, widened}
use Rattle.kalah_solve.proofs.WorthLemmas.{final_swapped, value_moving_again, value_passing, again_fewer, over_at_end, swapped_equal_sides}
use Rattle.kalah_solve.proofs.WorthLemmas.{turn_fewer}
use Rattle.kalah_cli.specs.{IsPlayedBest, IsNextMove, PlaysBestGames, VariationsEndWithTheirValue, best_game, best_moves, game_played}
use Rattle.kalah_cli.specs.{game_text, move_text, printed_value, MoveForm, MayBegin}

-- the position after any move has as many houses on each side
equal_after : (p : Position) (h : ℕ) → HasEqualSides (position_after (step_of p h))
equal_after p h = go (is_over (after p h)) (moves_again p h)
  where
    go : (over again : Bool) → HasEqualSides (position_after (if over then step.Over (swept (after p h)) else
        (if again then step.Again (after p h) else step.Turn (swapped (after p h)))))
    go true again = record { same = refl }
    go false true = after_equal_sides p h
    go false false = swapped_equal_sides (after_equal_sides p h)

-- ==== a move more in front

-- a move that ends the game leaves none
none_after : (p : Position) (h : ℕ) (e : Position) → step.Over e ≡ step_of p h → moves_left e ≡ 0
none_after p h e step_is = grind (arith, sum-zeros, row_distance_le)

some_left : (p : Position) → is_over p ≡ false → 0 < moves_left p
some_left p going = grind (arith, over_at_end)

pub fewer_left : {p : Position} {h : ℕ} (s : Step) → HasEqualSides p → Contains (legal_houses p) h → s ≡ step_of p h
    → moves_left (position_after s) < moves_left p
fewer_left {p} {h} (step.Again q) equal legal step_is = again_fewer p h q equal legal step_is
fewer_left {p} {h} (step.Turn q) equal legal step_is = turn_fewer p h q equal legal step_is
fewer_left {p} {h} (step.Over q) equal legal step_is = omega (arith, none_after p h q step_is, some_left p (legal_going p h legal))

-- ==== the moves of the game

no_best_moves : (n : ℕ) (p : Position) → is_over p ≡ true → best_moves n p ≡ []
unfolding best_moves
no_best_moves zero p over = refl
no_best_moves (suc n) p over = rw over

-- a game that goes on has one, and those after it
best_move_first : (n : ℕ) (p : Position) → is_over p ≡ false
    → best_moves (suc n) p ≡ best_house p ∷ best_moves n (position_after (step_of p (best_house p)))
unfolding best_moves
best_move_first n p going = rw going

fewer_next : (p : Position) → HasEqualSides p → is_over p ≡ false → moves_left (position_after (step_of p (best_house p))) < moves_left p
fewer_next p equal going = fewer_left _ equal (best_is_strategy.moves p equal going) refl

-- more moves than are left make no difference
same_moves : (n m : ℕ) (p : Position) → HasEqualSides p → moves_left p ≤ n → moves_left p ≤ m
    → best_moves n p ≡ best_moves m p
same_moves (suc n) (suc m) p equal low high = elim (cases_Bool (is_over p)) [
  | inl over ↦ no_best_moves (suc n) p over ∙ sym (no_best_moves (suc m) p over)
  | inr going ↦
      let fewer = fewer_next p equal going in
      let next = same_moves n m _ (equal_after p (best_house p)) (omega arith) (omega arith) in
      best_move_first n p going ∙ ap (λ moves. best_house p ∷ moves) next ∙ sym (best_move_first m p going)
]
same_moves n m p equal low high =
    let over = over_at_end p (omega arith) in
    no_best_moves n p over ∙ sym (no_best_moves m p over)

-- the moves of a game are its first one, and those from the position after it
game_goes_on : (p : Position) → HasEqualSides p → is_over p ≡ false
    → best_game p ≡ best_house p ∷ best_game (position_after (step_of p (best_house p)))
game_goes_on p equal going =
    let n = moves_left p - 1 in
    let left : moves_left p ≡ suc n = omega (arith, some_left p going) in
    let next = same_moves n _ _ (equal_after p (best_house p)) (omega (arith, fewer_next p equal going)) (omega arith) in
    ap (λ k. best_moves k p) left ∙ best_move_first n p going ∙ ap (λ moves. best_house p ∷ moves) next

-- the moves of a game that may begin with a house that is asked for are its first one, and those of best play after it
played_next : (first : Option ℕ) (p : Position) (h : ℕ) → HasEqualSides p → is_over p ≡ false
    → h ≡ unwrap_or first (best_house p) → game_played first p ≡ h ∷ best_game (position_after (step_of p h))
played_next first p h equal going house_is = rw house_is (first_of first)
  where
    first_of : (f : Option ℕ)
        → game_played f p ≡ unwrap_or f (best_house p) ∷ best_game (position_after (step_of p (unwrap_or f (best_house p))))
    first_of None = game_goes_on p equal going
    first_of (Some f) = refl

module _ {form : MoveForm} {first : Option ℕ} {p : Position} {value : Option ℤ} {h : ℕ} {s : Step} (next : IsNextMove form first p value h)
    (step_is : s ≡ step_of p h) where
  -- its text has the value of best play, if values are shown
  pub next_text : move_text form value h s ≡ move_text form (printed_value form (worth p)) h (step_of p h)
  next_text = rw (next.shown, step_is)

  -- the text of a game is that of its next move, and the text from the position after it on
  pub text_goes_on : {same : MoveForm} {q : Position} → HasEqualSides p → same ≡ form → q ≡ position_after s
      → game_text form p (game_played first p) ≡ move_text same value h s ++ game_text same q (best_game q)
  text_goes_on equal form_is after_move =
      let played = played_next first p h equal (legal_going p h next.legal) next.house in
      rw (form_is, after_move, next.shown, step_is, played)

-- if it is over, it has none
pub no_text : (form : MoveForm) (first : Option ℕ) (p : Position) → MayBegin first p → is_over p ≡ true
    → game_text form p (game_played first p) ≡ []
no_text form None p may_begin over = ap (game_text form p) (no_best_moves (moves_left p) p over)
no_text form (Some h) p may_begin over = absurd (both_ways _ (legal_going p h may_begin) over)

-- the verdict determines the next move, by a margin of thirty-two bits
pub next_of_verdict : (form : MoveForm) (first : Option ℕ) (p : Position) {margin : ℤ} {house : ℕ} → MayBegin first p
    → IsBestInRange margin house → StatesBestMove p margin house → Best margin house ≡ verdict_of p
    → IsNextMove form first p (printed_value form (to_z w32 (of_z w32 margin))) (unwrap_or first house)
next_of_verdict form first p {margin} {house} may_begin small states verdict =
    let best : Best margin house ≡ Best (worth p) (best_house p) = verdict ∙ rw states.going in
    let margin_is : to_z w32 (of_z w32 margin) ≡ worth p = cc (to_z-of_z w32 margin (omega (arith, ints)), best) in
    let house_is : house ≡ best_house p = cc best in
    record { legal = legal first may_begin; house = ap (unwrap_or first) house_is; shown = ap (printed_value form) margin_is }
  where
    legal : (f : Option ℕ) → MayBegin f p → Contains (legal_houses p) (unwrap_or f house)
    legal None may_begin = states.best.legal
    legal (Some h) may_begin = may_begin

-- ==== the law on it

-- the game after a move is that from the position which the move leaves: if the game is over, neither has a move
rest_of : (p : Position) (h : ℕ) {again : Bool} → moves_again p h ≡ again
    → best_game (if again then after p h else swapped (after p h)) ≡ best_game (position_after (step_of p h))
rest_of p h again = rw (← again) (go (after p h) (moves_again p h) (is_over (after p h)) refl)
  where
    none_swept : (q : Position) → [] ≡ best_game (swept q)
    none_swept q = sym (no_best_moves _ (swept q) (grind (arith, sum-zeros)))

    go : (q : Position) (again over : Bool) → is_over q ≡ over → best_game (if again then q else swapped q)
        ≡ best_game (position_after (if over then step.Over (swept q) else (if again then step.Again q else step.Turn (swapped q))))
    go q true true over = no_best_moves _ q over ∙ none_swept q
    go q false true over = no_best_moves _ (swapped q) (is_over-swapped q ∙ over) ∙ none_swept q
    go q true false going = refl
    go q false false going = refl

-- the best move, and then the moves of the game after it, are those of the game
best_then : (p : Position) {h : ℕ} {houses : List ℕ} {again : Bool} → HasEqualSides p → is_over p ≡ false → Contains (best_house p ∷ []) h
    → moves_again p h ≡ again → houses ≡ best_game (if again then after p h else swapped (after p h)) → h ∷ houses ≡ best_game p
best_then p {h} equal going chosen again rest =
    let best : h ≡ best_house p = grind arith in
    ap (λ houses. h ∷ houses) (rest ∙ rest_of p h again) ∙ ap (λ k. k ∷ best_game (position_after (step_of p k))) best
    ∙ sym (game_goes_on p equal going)

-- a game of the lowest best houses has these moves
game_is_best : {p : Position} {houses : List ℕ} {final : Position} → HasEqualSides p → IsPlayedBest p houses final → houses ≡ best_game p
game_is_best {p} equal (is_at_end over) = sym (no_best_moves _ p over)
game_is_best {p} equal (moves_on {h = h} going chosen again rest) =
    best_then p equal going chosen again (game_is_best (after_equal_sides p h) rest)
game_is_best {p} equal (passes_turn {h = h} going chosen turn rest) =
    best_then p equal going chosen turn (game_is_best (swapped_equal_sides (after_equal_sides p h)) rest)

-- such a game is played, and ends with the margin of best play
pub plays_best_games : PlaysBestGames
plays_best_games p equal =
    let game = strategies_play_a_game best_house best_house best_is_strategy best_is_strategy p equal in
    let keeps = strategy_within best_is_strategy in
    let bounded = game_is_bounded keeps keeps equal game.2 in (
      game.1,
      rw (game_is_best equal game.2) at game.2,
      omega (ints, arith, bounded.low best_plays, bounded.high best_plays),
    )

-- ==== the law on variations

-- a game of the best houses is one by the rules
by_rules : {p : Position} {houses : List ℕ} {final : Position} → HasEqualSides p → best_game p ≡ houses → IsPlayedBest p (best_game p) final
    → Game legal_houses legal_houses p houses final
by_rules equal same game =
    rw (← same) (widened (strategy_within best_is_strategy) (strategy_within best_is_strategy) equal game)

-- with a move in front it ends with the value of that move
pub variations_end_with_their_value : VariationsEndWithTheirValue
variations_end_with_their_value p h equal legal = elim (cases_Bool (moves_again p h)) [
  | inl again ↦
      let same_sides = after_equal_sides p h in
      let best = plays_best_games (after p h) same_sides in (
        best.0,
        moves_on (legal_going p h legal) legal again (by_rules same_sides (rest_of p h again) best.1),
        best.2 ∙ sym (value_moving_again p h again),
      )
  | inr turn ↦
      let same_sides = swapped_equal_sides (after_equal_sides p h) in
      let best = plays_best_games (swapped (after p h)) same_sides in (
        swapped best.0,
        passes_turn (legal_going p h legal) legal turn (by_rules same_sides (rest_of p h turn) best.1),
        omega (arith, ints, final_swapped best.0, best.2, value_passing p h turn),
      )
]
