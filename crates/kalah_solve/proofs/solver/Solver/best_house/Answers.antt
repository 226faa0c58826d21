-- The houses so far win less than best play, so the first that wins as much is the best one, and the last is if all others win less.
use Rattle.std.proofs.{Common.{arith, refl, ap, ◌∙◌, ◌≡◌, ◌<◌, ◌-◌, ℕ, List, length, get_or}, lemmas.List.Elements.{Contains-get_or}}
use Rattle.kalah_rules.{specs.{Position.{storeless}, Lap.{HoldsSeeds}}, proofs.PlayLemmas.{legal_holds}}
use Rattle.kalah_solve.proofs.{WorthLemmas.{legal_some}, SolverLemmas.{first_enough_is_best, one_more_falls_short, last_is_best}, SearchLemmas.{below_if_test_fails}, solver.Solver.best_house.{Given.{Over}, Goals.{After-get-h}}}
use Rattle.kalah_solve.proofs.solver.Solver.best_house.Goals as goal

pub overflow_sub-last : goal.overflow_sub-last
overflow_sub-last g c = omega (arith, ap length c.legal-moves.ensures.moves, legal_some (storeless c.args.houses.now) c.requires.going)

pub get-requires : goal.get-requires
get-requires g c = omega (arith, ap length c.legal-moves.ensures.moves, legal_some (storeless c.args.houses.now) c.requires.going)

-- a move before the last is a legal house
before_last : {moves legal : List ℕ} {i count house : ℕ} → count ≡ length moves → i < count - 1 → house ≡ get_or moves i 0
    → moves ≡ legal → (i < length legal) × (house ≡ get_or legal i 0)
before_last {i = i} many before house_is are = (omega (arith, ap length are), house_is ∙ ap (λ xs. get_or xs i 0) are)

-- so it holds seeds
looked_at_holds : (g : Over) (c : After-get-h g) → HoldsSeeds (storeless c.args.houses.now) c.get-h.result
looked_at_holds g c =
    let at = before_last c.len-last.ensures c.loop-i-test.true c.get-h.ensures c.legal-moves.ensures.moves in
    legal_holds _ (rw at.1 (Contains-get_or _ c.loop-i.i 0 at.0))

pub new-requires-clause-first : goal.new-requires-clause-first
new-requires-clause-first g c = (looked_at_holds g (goal.at.new-requires-clause-first g c).After-get-h).first

pub new-requires-clause-last : goal.new-requires-clause-last
new-requires-clause-last g c =
    omega (arith, (looked_at_holds g (goal.at.new-requires-clause-last g c).After-get-h).last, c.legal-moves.ensures.limits.at_most_six)

pub returns-then-move_reaches : goal.returns-then-move_reaches
returns-then-move_reaches g c =
    let enough = c.if-move_reaches.ensures.0 refl in
    let at = before_last c.len-last.ensures c.loop-i-test.true c.get-h.ensures c.legal-moves.ensures.moves in
    at.1 ∙ first_enough_is_best c.args.houses.now c.legal-moves.ensures.limits c.loop-i.i at.0 c.loop-i.invariant
    (rw (← at.1, ← c.new.ensures, ← c.requires.beta) enough)

pub loop-i-preserved : goal.loop-i-preserved
loop-i-preserved g c =
    let less = below_if_test_fails c.if-move_reaches.ensures refl in
    let at = before_last c.len-last.ensures c.loop-i-test.true c.get-h.ensures c.legal-moves.ensures.moves in
    one_more_falls_short c.args.houses.now c.legal-moves.ensures.limits c.loop-i.i at.0 c.loop-i.invariant
    (rw (← at.1, ← c.new.ensures, ← c.requires.beta) less)

pub returns : goal.returns
returns g c =
    let a = c.args.houses.now in
    let many = ap length c.legal-moves.ensures.moves in
    let some = legal_some (storeless a) c.requires.going in
    let last = c.len-last.result - 1 in
    let place = c.get.ensures ∙ ap (λ xs. get_or xs last 0) c.legal-moves.ensures.moves in
    place ∙ last_is_best a c.legal-moves.ensures.limits last c.requires.going (omega arith) (λ k low. c.loop-i.invariant k (omega arith))
