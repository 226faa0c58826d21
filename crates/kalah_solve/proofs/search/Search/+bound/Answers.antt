-- Each move that was tried wins at most `most` seeds, so best play wins no more once none is left; a move that is enough wins no more than
-- best play.
use Rattle.std.proofs.Common.{◌≡◌, ℕ, ◌∙◌, arith, rules, sym, subst, lit≤}
use Rattle.kalah_rules.{specs.{Sowing.{EndsDirectlyInStore}, HousesStep.{houses_step}}, proofs.PlayLemmas.{sum-set_zero}}
use Rattle.kalah_solve.{specs.{IsStepInVariant}, proofs.search.Search.+bound.Given.{Over}}
use Rattle.kalah_solve.proofs.{HouseSetLemmas.{without_last_less, last_is_legal, each_at_last}, WorthLemmas.{goes_on, played_leads_on, step_falls}, BoundsLemmas.{won_of_houses}}
use Rattle.kalah_solve.proofs.SearchLemmas.{rank_of_moves, rank_of_search, lower_measure, step_called, enough_is_won, turn_enough, reply_left, reply_fits, step_is_turn, taken_is_turn, bound_le_max, bound_of_rest, played_at_start, played_and_waits, played_and_bounded, played_enough, all_played, tried_at_start, tried_without_last, all_tried, untried_at_start, untried_fewer, none_untried}
use Rattle.kalah_solve.proofs.search.Search.+bound.Goals as goal
use Rattle.kalah_solve.proofs.search.Search.+bound.Goals.{try_remaining-Joined-step, try_remaining-in-Turn+else-gained-beta, try_remaining-in_default-step}

-- ==== bound_step: the bound of one move
pub bound_step-overflow_add-result : goal.bound_step-overflow_add-result
bound_step-overflow_add-result g t c =
    let on = subst (IsStepInVariant _) c.in-Again.is c.requires.on in
    omega (arith, won_of_houses on.limits, bound_le_max c.bound.ensures)

pub bound_step-overflow_sub-result : goal.bound_step-overflow_sub-result
bound_step-overflow_sub-result g t c =
    let on = subst (IsStepInVariant _) c.in-Turn.is c.requires.on in
    omega (arith, won_of_houses on.limits, bound_le_max c.bound-else-all-beta.ensures)

pub bound_step-returns-else-all-beta : goal.bound_step-returns-else-all-beta
bound_step-returns-else-all-beta g t c =
    let on = subst (IsStepInVariant _) c.in-Turn.is c.requires.on in
    rw c.in-Turn.is (bound_of_rest c.in-Turn.gained (omega arith) (won_of_houses on.limits).few c.bound-else-all-beta.ensures)

-- ==== bound_by_moves: moves into the store, the remaining moves, and the turns that wait, by their priority
pub bound_by_moves-bound_by_search-requires : goal.bound_by_moves-bound_by_search-requires
bound_by_moves-bound_by_search-requires g t c κs within =
    let limits = c.seeds-seeds.ensures.limits in
    let turn = taken_is_turn c.loop-next.invariant.waiting c.in-Some.ensures.taken in
    let step = sym turn.step in (
      lower_measure rank_of_search rank_of_moves c.decreases (step_falls limits turn.legal step) (lit≤ tt),
      (within, (search rules, (goes_on c.requires.variant_is limits turn.legal step).ongoing)),
    )

pub bound_by_moves-overflow_sub-bound : goal.bound_by_moves-overflow_sub-bound
bound_by_moves-overflow_sub-bound g t c =
    reply_fits c.args.beta c.seeds-seeds.ensures.limits c.loop-next.invariant.waiting c.in-Some.ensures.taken c.seeds-seeds.ensures.seeds
    c.saturating_sub-reply_beta.ensures c.bound_by_search.ensures

pub bound_by_moves-returns-then-beta-bound : goal.bound_by_moves-returns-then-beta-bound
bound_by_moves-returns-then-beta-bound g t c =
    turn_enough c.args.beta c.seeds-seeds.ensures.limits c.loop-next.invariant.waiting c.in-Some.ensures.taken c.seeds-seeds.ensures.seeds
    c.saturating_sub-reply_beta.ensures c.bound_by_search.ensures c.if-beta-bound.true

pub bound_by_moves-loop-next-init : goal.bound_by_moves-loop-next-init
bound_by_moves-loop-next-init g t c =
    untried_at_start _ c.try_remaining-remaining.ensures (c.bound_into_store-into_store.ensures.upper c.if-beta-into_store.false)
    c.if-beta-into_store.false c.if-beta-remaining.false c.max-most.ensures

pub bound_by_moves-loop-next-preserved : goal.bound_by_moves-loop-next-preserved
bound_by_moves-loop-next-preserved g t c =
    let left = reply_left c.args.beta c.seeds-seeds.ensures.limits c.loop-next.invariant.waiting c.in-Some.ensures.taken
    c.seeds-seeds.ensures.seeds c.saturating_sub-reply_beta.ensures c.bound_by_search.ensures in
    untried_fewer _ c.loop-next.invariant c.in-Some.ensures.taken c.in-Some.ensures.turns (left.upper c.if-beta-bound.false)
    c.if-beta-bound.false c.max-most-in-Some.ensures

pub bound_by_moves-loop-next-smaller : goal.bound_by_moves-loop-next-smaller
bound_by_moves-loop-next-smaller g t c =
    let taken = c.in-Some.ensures.taken in
    rw taken.rest_is (omega (arith, taken.some, sum-set_zero c.loop-next.waiting.priorities taken.at))

pub bound_by_moves-returns : goal.bound_by_moves-returns
bound_by_moves-returns g t c =
    none_untried c.seeds-seeds.ensures.limits c.requires.going c.loop-next.invariant c.in_default.ensures.taken

-- ==== bound_into_store: moves that end in the store without a lap
pub bound_into_store-loop-house-init : goal.bound_into_store-loop-house-init
bound_into_store-loop-house-init g t c =
    let set = c.ending_in_store-untried.ensures in
    tried_at_start set.limits c.requires.going set.members

pub bound_into_store-play_into_store-requires : goal.bound_into_store-play_into_store-requires
bound_into_store-play_into_store-requires g t c = record {
  legal = last_is_legal c.loop-house.invariant.movable c.in-Some.ensures.0;
  ends = each_at_last (EndsDirectlyInStore c.args.houses.now) c.in-Some.ensures.0 c.loop-house.invariant.ends;
}

pub bound_into_store-bound_step-bound-requires : goal.bound_into_store-bound_step-bound-requires
bound_into_store-bound_step-bound-requires g t c κs within =
    let called = step_called c.ending_in_store-untried.ensures.limits (last_is_legal c.loop-house.invariant.movable c.in-Some.ensures.0)
    c.requires.variant_is c.play_into_store.ensures c.decreases in
    (called.0, (within, (search rules, called.1)))

pub bound_into_store-returns-then-beta-bound-clause-lower : goal.bound_into_store-returns-then-beta-bound-clause-lower
bound_into_store-returns-then-beta-bound-clause-lower g t c =
    let legal = last_is_legal c.loop-house.invariant.movable c.in-Some.ensures.0 in
    enough_is_won c.ending_in_store-untried.ensures.limits legal (rw c.play_into_store.ensures at c.bound_step-bound.ensures)

pub bound_into_store-loop-house-preserved : goal.bound_into_store-loop-house-preserved
bound_into_store-loop-house-preserved g t c =
    let bounded = rw c.play_into_store.ensures at c.bound_step-bound.ensures in
    tried_without_last _ _ c.loop-house.invariant c.in-Some.ensures (bounded.upper c.if-beta-bound.false)
    c.if-beta-bound.false c.max-most.ensures

pub bound_into_store-loop-house-smaller : goal.bound_into_store-loop-house-smaller
bound_into_store-loop-house-smaller g t c = without_last_less c.in-Some.ensures

pub bound_into_store-returns-clause-upper : goal.bound_into_store-returns-clause-upper
bound_into_store-returns-clause-upper g t c = λ short. all_tried c.loop-house.invariant c.in_default.ensures

-- ==== try_remaining: the remaining moves; turns wait
pub try_remaining-loop-house-init : goal.try_remaining-loop-house-init
try_remaining-loop-house-init g t c =
    let set = c.remaining-untried.ensures in
    played_at_start set.limits c.requires.ongoing.going c.requires.none set.members

pub try_remaining-play_with-step-requires : goal.try_remaining-play_with-step-requires
try_remaining-play_with-step-requires g t c = last_is_legal c.loop-house.invariant.movable c.in-Some.ensures.0

pub try_remaining-priority-priority-requires : goal.try_remaining-priority-priority-requires
try_remaining-priority-priority-requires g t c =
    let leads = played_leads_on c.remaining-untried.ensures.limits (last_is_legal c.loop-house.invariant.movable c.in-Some.ensures.0)
    (rw c.in-Turn.is at c.play_with-step.ensures.step) in
    omega (arith, leads.kept)

-- the step that doesn't wait is the one that was played
step_played : (g : Over) (t : ℕ) (c : try_remaining-Joined-step g t)
    → c.match-step.step ≡ houses_step c.args.houses.now c.in-Some.house
step_played g t c = elim c.match-step.branch [
  | try_remaining-in-Turn+else-gained-beta w ↦ w.step-is ∙ sym w.in-Turn.is ∙ c.play_with-step.ensures.step
  | try_remaining-in_default-step w ↦ w.step-is ∙ c.play_with-step.ensures.step
]

pub try_remaining-bound_step-bound-requires : goal.try_remaining-bound_step-bound-requires
try_remaining-bound_step-bound-requires g t c κs within =
    let called = step_called c.remaining-untried.ensures.limits (last_is_legal c.loop-house.invariant.movable c.in-Some.ensures.0)
    c.requires.ongoing.variant_is (step_played g t (goal.at.try_remaining-bound_step-bound-requires g t c).Joined-step) c.decreases in
    (called.0, (within, (search rules, called.1)))

pub try_remaining-returns-then-beta-bound : goal.try_remaining-returns-then-beta-bound
try_remaining-returns-then-beta-bound g t c =
    let played = c.loop-house.invariant in
    let legal = last_is_legal played.movable c.in-Some.ensures.0 in
    let bounded = rw (step_played g t (goal.at.try_remaining-returns-then-beta-bound g t c).Joined-step) at c.bound_step-bound.ensures in
    played_enough played c.if-beta-bound.true (enough_is_won c.remaining-untried.ensures.limits legal bounded c.if-beta-bound.true)

pub try_remaining-loop-house-preserved : goal.try_remaining-loop-house-preserved
try_remaining-loop-house-preserved g t c =
    let bounded = rw (step_played g t (goal.at.try_remaining-loop-house-preserved g t c).Joined-step) at c.bound_step-bound.ensures in
    played_and_bounded c.loop-house.invariant c.in-Some.ensures _ _ (bounded.upper c.if-beta-bound.false)
    c.if-beta-bound.false c.max-most.ensures

pub try_remaining-loop-house-preserved-then-seeds-self : goal.try_remaining-loop-house-preserved-then-seeds-self
try_remaining-loop-house-preserved-then-seeds-self g t c =
    let played = c.loop-house.invariant in
    let priority = c.priority-priority.ensures in
    let turn = step_is_turn c.remaining-untried.ensures.limits (last_is_legal played.movable c.in-Some.ensures.0)
    (rw c.in-Turn.is at c.play_with-step.ensures.step) in
    played_and_waits played c.in-Some.ensures _ _ c.loop-house.waiting.placed priority.house priority.some turn
    c.add.ensures.priorities c.add.ensures.turns

pub try_remaining-add-requires : goal.try_remaining-add-requires
try_remaining-add-requires g t c = omega (arith, c.in-Some.ensures.0.last, c.priority-priority.ensures.house)

pub try_remaining-loop-house-smaller : goal.try_remaining-loop-house-smaller
try_remaining-loop-house-smaller g t c = without_last_less c.in-Some.ensures

pub try_remaining-loop-house-smaller-then-seeds-self : goal.try_remaining-loop-house-smaller-then-seeds-self
try_remaining-loop-house-smaller-then-seeds-self g t c = without_last_less c.in-Some.ensures

pub try_remaining-returns : goal.try_remaining-returns
try_remaining-returns g t c = all_played c.loop-house.invariant c.in_default.ensures
