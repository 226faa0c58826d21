-- The step of houses: what a move on the numbers of their rows leads to, and the step of a board by it.
use Rattle.kalah_rules.specs.declared.step.Step.TheVariants as step
use Rattle.kalah_rules.specs.Position as position
use Rattle.std.proofs.{Common.{◌≡◌, ◌≢◌, ℕ, ◌+◌, ◌-◌, ◌*◌, ◌/◌, ◌%◌, ◌^◌, ◌<◌, ◌≤◌, length, arith, ap, sym, ◌∙◌, refl, subst, eq-eqb, Bool, true, false, sum, ◌==◌, Contains}, lemmas.{Bool.{cond_both, eqb-true, Decides.{nat_tests}}, List.{length-replicate}}, Math.{Bool.{or_comm}}}
use Rattle.kalah_rules.specs.{HousesState, AreWithinLimits, side_length, seeds, storeless, IsWithinLimits, is_over, swapped, houses_in, with_stores, without_seeds, HoldsSeeds, sown, last_distance, moves_again, after, legal_houses, step_to, step_of, position_after, IsNearerEnd, Position.{Position}}
use Rattle.kalah_rules.specs.{rule_bit, ShowsPosition, ones, houses_of_fields, AreFieldsOf, AreFields, last_place, houses_step_to, houses_step, Over, Again, Turn, HousesStep.{HousesStep}, declared.{houses.{play.RowNumbers.{RowNumbers}}, step.Step.{Step}}}
use Rattle.kalah_rules.proofs.{PlayLemmas.{IsLegal, legal_holds, after_nearer, sum-zeros, with_store_seeds, after_of_houses, legal_going}, KeyLemmas.{ones_le, fields_of, rows_of_fields, are_fields, sum-zero, packed_row-zero}}
use Rattle.kalah_rules.proofs.PackedLemmas.{KeepsSeeds, CanSow, short_distance, after_past, packed_row-lifted, packed_row-sown_other, after_keeps, again_at, into_store}

-- ==== The result of a move on houses, as a board reports it

pub is_over-swapped : (q : Position) → is_over (swapped q) ≡ is_over q
is_over-swapped q = or_comm (sum q.other == 0) (sum q.own == 0)

pub houses_within : {p : Position} → IsWithinLimits p → AreWithinLimits (houses_in p)
houses_within {p} limits = omega arith

-- a move keeps the houses within the limits
pub after_within : {a : HousesState} {h : ℕ} → AreWithinLimits a → HoldsSeeds (storeless a) h
    → AreWithinLimits (houses_in (after (storeless a) h))
after_within {a} {h} limits holds = grind (arith, after_keeps)

-- also as the opponent sees them
pub swapped_within : (q : Position) → AreWithinLimits (houses_in q) → AreWithinLimits (houses_in (swapped q))
swapped_within q limits = omega arith

-- ---- what `play` computes
-- the move of house h leads to this step with the houses of these fields
pub record IsStepOfFields (a : HousesState) (h rows seeds variant : ℕ) (step : HousesState → HousesStep) : Type 0 where
  pub fields : AreFields rows seeds variant
  pub step_is : step (houses_of_fields rows variant) ≡ houses_step a h

-- a move brings at most 31 seeds to the store
pub store_small : {a : HousesState} {h : ℕ} {r : RowNumbers} → AreWithinLimits a → IsLegal a h
    → ShowsPosition r (after (storeless a) h) → r.store ≤ 31
store_small {a} {h} {r} limits legal shows =
    let keeps = after_keeps limits (legal_holds _ legal) in
    omega (arith, keeps.play)

module _ {a : HousesState} {h rows seeds variant : ℕ} {r : RowNumbers} (fields : AreFields rows seeds variant)
    (view_is : houses_of_fields rows variant ≡ a) (legal : IsLegal a h) (shows : ShowsPosition r (after (storeless a) h)) where
  fields_are : AreFieldsOf a rows seeds variant
  fields_are = fields_of fields view_is

  -- the position after the move
  abbrev moved : Position
  moved = after (storeless a) h

  move_keeps : KeepsSeeds (storeless a) moved
  move_keeps = after_keeps fields_are.limits (legal_holds _ legal)

  moved_within : AreWithinLimits (houses_in moved)
  moved_within = after_within fields_are.limits (legal_holds _ legal)

  pub store_within : r.store ≤ seeds
  store_within = omega (arith, move_keeps.play, fields_are.seeds_are)

  -- without own seeds the game is over
  pub over_own : r.rows % 2 ^ 30 ≡ 0 → Over r.store (seeds - r.store) ≡ houses_step a h
  over_own none = grind (arith, sum-zero, move_keeps, fields_are)

  -- without seeds of the opponent it is over
  pub over_other : r.rows / 2 ^ 30 ≡ 0 → Over seeds 0 ≡ houses_step a h
  over_other none =
      let empty = sum-zero moved.other (sym shows.other ∙ none) in
      grind (arith, nat_tests, move_keeps, fields_are)

  module _ (own_some : r.rows % 2 ^ 30 ≢ 0) (other_some : r.rows / 2 ^ 30 ≢ 0) where
    moved_going : is_over moved ≡ false
    moved_going = grind (arith, packed_row-zero)

    -- if the mover moves again, the rows stay in place
    pub again_fields : moves_again (storeless a) h ≡ true → IsStepOfFields a h r.rows (seeds - r.store) variant (Again r.store)
    again_fields more =
        let rule = ap rule_bit move_keeps.rule in
        let step : Again moved.own_store (houses_in moved) ≡ houses_step a h = cc moved_going in
        let there = are_fields {variant = variant} moved_within (omega (arith, shows.own, shows.other))
        (omega (arith, move_keeps.play, fields_are.seeds_are)) (omega (arith, fields_are.variant_is, move_keeps.side)) in
        record { fields = there.0; step_is = rw (shows.store, there.1) step }

    -- if the turn passes, they change places
    pub turn_fields : moves_again (storeless a) h ≡ false
        → IsStepOfFields a h (r.rows / 2 ^ 30 + 2 ^ 30 * (r.rows % 2 ^ 30)) (seeds - r.store) variant (Turn r.store)
    turn_fields passed =
        let rule = ap rule_bit move_keeps.rule in
        let step : Turn moved.own_store (houses_in (swapped moved)) ≡ houses_step a h = cc moved_going in
        let there = are_fields {seeds = seeds - r.store} {variant = variant} (swapped_within moved moved_within)
        (omega (arith, shows.own, shows.other)) (omega (arith, move_keeps.play, fields_are.seeds_are))
        (omega (arith, fields_are.variant_is, move_keeps.other_side, fields_are.limits.same_side)) in
        record { fields = there.0; step_is = rw (shows.store, there.1) step }

-- ---- a step on houses, applied to a position
-- the step of a position whose houses make this one
abbrev pub with_board_stores : Position → HousesStep → Step
with_board_stores p (Over own other) = step.Over (with_stores (without_seeds (houses_in p)) (p.own_store + own) (p.other_store + other))
with_board_stores p (Again gained b) = step.Again (with_stores b (p.own_store + gained) p.other_store)
with_board_stores p (Turn gained b) = step.Turn (with_stores b p.other_store (p.own_store + gained))

-- the position that it leads to is within the limits
abbrev pub IsStepWithin : Position → HousesStep → Type 0
IsStepWithin p s = IsWithinLimits (position_after (with_board_stores p s))

-- the step with the stores is that of the position with the stores
with_board_stores-step_to : (p q : Position) (again : Bool) → side_length q ≡ side_length p → q.rule ≡ p.rule
    → q.other_store ≡ 0
    → with_board_stores p (houses_step_to q again) ≡ step_to (with_store_seeds p.own_store p.other_store q) again
with_board_stores-step_to p q again side rule none = grind arith

-- the step of a board is that of its houses
step_of_houses : (p : Position) (h : ℕ) → AreWithinLimits (houses_in p) → HoldsSeeds (storeless (houses_in p)) h
    → with_board_stores p (houses_step (houses_in p) h) ≡ step_of p h
step_of_houses p h limits holds =
    let q = after _ h in
    let keeps = after_keeps limits holds in
    with_board_stores-step_to p q _ keeps.side keeps.rule keeps.other_store
    ∙ ap (λ x. step_to x (moves_again p h)) (sym (after_of_houses p h))

-- the step of a board is within the limits
step_within : {p : Position} (h : ℕ) → IsWithinLimits p → HoldsSeeds (storeless (houses_in p)) h
    → IsStepWithin p (houses_step (houses_in p) h)
step_within {p} h limits holds =
    let a = houses_in p in
    let q = after _ h in
    let limits_of_houses = houses_within limits in
    let keeps = after_keeps limits_of_houses holds in
    let on = after_within limits_of_houses holds in
    cond_both (is_over q) _ _ (IsStepWithin p) (λ over. omega (arith, keeps.play, sum-zeros, length-replicate {A = ℕ}))
    (λ going. cond_both (moves_again (storeless a) h) _ _ (IsStepWithin p) (omega arith) (omega arith))

-- all that a board needs of a step of its houses
pub record IsStepOf (p : Position) (h : ℕ) (s : HousesStep) : Type 0 where
  pub same : with_board_stores p s ≡ step_of p h
  pub within : IsStepWithin p s
  pub nearer : IsNearerEnd (after p h) p

-- a step of a board's houses is the board's, within the limits
pub step_of_board : {b : HousesState} {own_store other_store h : ℕ} {p : Position} {s t : HousesStep}
    → IsWithinLimits (with_stores b own_store other_store) → with_stores b own_store other_store ≡ p → Contains (legal_houses p) h
    → t ≡ s → t ≡ houses_step b h → IsStepOf (with_stores b own_store other_store) h s
step_of_board {b} {own_store} {other_store} {h} limits view_is legal same step_is =
    let p = with_stores b own_store _ in
    let holds = legal_holds _ (subst (λ (x : Position). Contains (legal_houses x) h) (sym view_is) legal) in
    record {
      same = ap (with_board_stores p) (sym same ∙ step_is) ∙ step_of_houses _ _ (houses_within limits) holds;
      within = subst (IsStepWithin p) (sym step_is ∙ same) (step_within _ limits holds);
      nearer = after_nearer (omega arith) (omega arith);
    }

-- ==== Moves whose last seed falls into the store without a lap

module _ {a : HousesState} {h rows seeds variant : ℕ} {r : RowNumbers} (fields : AreFields rows seeds variant)
    (view_is : houses_of_fields rows variant ≡ a) (legal : IsLegal a h) (ends : position.seeds a.own h + h ≡ length a.own + 1)
    (shows : ShowsPosition r (sown (storeless a) h)) where
  can_sow : CanSow a h
  can_sow = record { limits = (fields_of fields view_is).limits; holds = legal_holds _ legal }

  distance_is_seeds : last_distance (storeless a) h ≡ position.seeds a.own h
  distance_is_seeds = short_distance _ h can_sow.holds (omega arith)

  again_after : moves_again (storeless a) h ≡ true
  again_after = omega (arith, eq-eqb, distance_is_seeds)

  ends_at_store : last_place (length a.own) h (position.seeds a.own h) ≡ length a.own + 1
  ends_at_store = eqb-true _ _ (sym (again_at _ h can_sow.holds) ∙ again_after)

  -- nothing is captured
  store_shows : ShowsPosition r (after (storeless a) h)
  store_shows = after_past _ h can_sow.holds r (omega (arith, ends_at_store)) shows

  -- the opponent has seeds as before
  other_some : r.rows / 2 ^ 30 ≢ 0
  other_some none = grind (arith, legal_going, sum-zero, packed_row-sown_other can_sow)

  -- the game goes on with the mover, if the mover has seeds left
  store_fields : 0 < r.rows % 2 ^ 30 → IsStepOfFields a h r.rows (seeds - r.store) variant (Again r.store)
  store_fields some = again_fields fields view_is legal store_shows (omega arith) other_some again_after

-- what comes of a move, by the rows after it, if its last seed falls into the store without a lap
pub record MovesIntoStore (a : HousesState) (h seeds variant now : ℕ) : Type 0 where
  pub goes_on : 0 < now % 2 ^ 30 → IsStepOfFields a h now (seeds - 1) variant (Again 1)
  pub over : now % 2 ^ 30 ≡ 0 → Over 1 (seeds - 1) ≡ houses_step a h

-- it adds a seed in each later house, less the seeds of the house
pub moves_into_store : {a : HousesState} {h rows seeds variant : ℕ} (more : ℕ) → AreFields rows seeds variant
    → houses_of_fields rows variant ≡ a → IsLegal a h → position.seeds a.own h + h ≡ length a.own + 1
    → (more + 32 ^ (h - 1) * (length a.own + 1 - h)) % 2 ^ 64 ≡ ones (length a.own) - ones h
    → MovesIntoStore a h seeds variant ((rows + more) % 2 ^ 64)
moves_into_store {a} {h} {rows} {seeds} {variant} more fields view_is legal ends more_is =
    let are = fields_of fields view_is in
    let can : CanSow a h = record { limits = are.limits; holds = legal_holds _ legal } in
    let house = 32 ^ (h - 1) * position.seeds a.own h in
    let later = ones (length a.own) - ones h in
    let few : length a.own + 1 - h ≡ position.seeds a.own h = omega arith in
    let small : ones (length a.own) ≤ ones 6 = ones_le (length a.own) 6 can.limits.at_most_six in
    let same : (rows + more) % 2 ^ 64 ≡ rows - house + later = omega (
      arith,
      rw few at more_is,
      small,
      are.rows_are,
      (rows_of_fields are).fit,
      packed_row-lifted can,
    ) in
    let shows = into_store can _ house later ends (sym are.rows_are) refl (omega (arith, ones_le h (length a.own) can.holds.last)) in
    rw same (record {
      goes_on = store_fields fields view_is legal ends shows;
      over = over_own fields view_is legal (store_shows fields view_is legal ends shows);
    })
