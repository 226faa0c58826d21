-- The loop runs from the last move to the first, and puts the value of each before those of the moves behind it.
use Rattle.std.proofs.{lemmas.{Grind.{common_steps}, List.{drop_more, Elements.{Contains-get_or}}}, Common.{◌≡◌, ℕ, ◌<◌, ◌≤◌, ◌-◌, ◌+◌, List, ◌∷◌, arith, length, subst, sym, map, drop, get_or, Contains, refl}}
use Rattle.kalah_rules.specs.Position.{Position}
use Rattle.kalah_solve.specs.{IsMoveValue, move_value, AreValuesByBestPlay, declared.solver.move_values.MoveValue.{MoveValue}}
use Rattle.kalah_solve.proofs.SolverLemmas.{values_state, move_value_small}
use Rattle.kalah_solve.proofs.solver.Solver.values.Goals as goal

module _ (moves : List ℕ) {i h : ℕ} (some : 0 < i) (within : i ≤ length moves) (h_is : h ≡ get_or moves (i - 1) 0) where
  -- the move before place i is one of the houses
  at_place : {houses : List ℕ} → moves ≡ houses → Contains houses h
  at_place same = rw (h_is, ← same) (Contains-get_or moves (i - 1) 0 (omega arith))

  -- the values of the moves from that place on
  one_more : (p : Position) {old new : List MoveValue} {v : MoveValue} → v ≡ move_value p h
      → old ≡ map (move_value p) (drop i moves) → new ≡ v ∷ old → new ≡ map (move_value p) (drop (i - 1) moves)
  one_more p v_is old_is new_is =
      let next : i - 1 + 1 ≡ i = omega arith in
      rw (new_is, old_is, v_is, h_is, drop_more moves (i - 1) 0 (omega arith), next) refl

pub move_value-requires : goal.move_value-requires
move_value-requires g c =
    at_place c.legal-moves.result c.loop-i-test.true (omega arith) c.get.ensures c.legal-moves.ensures.moves

pub prepend-requires-clause-small : goal.prepend-requires-clause-small
prepend-requires-clause-small g c =
    let legal = at_place c.legal-moves.result c.loop-i-test.true (omega arith) c.get.ensures c.legal-moves.ensures.moves in
    subst IsMoveValue (sym c.move_value.ensures) (move_value_small c.legal-moves.ensures.limits legal)

pub loop-i-preserved : goal.loop-i-preserved
loop-i-preserved g c =
    one_more c.legal-moves.result c.loop-i-test.true (omega arith) c.get.ensures c.args.board.now c.move_value.ensures c.loop-i.invariant
    c.prepend.ensures

pub returns-clause-best_play : goal.returns-clause-best_play
returns-clause-best_play g c =
    let none : c.loop-i.i ≡ 0 = omega arith in
    let done = rw (none, c.legal-moves.ensures.moves) at c.loop-i.invariant in
    subst (AreValuesByBestPlay c.args.board.now) (sym done) (values_state _)

pub prepend-requires-clause-room : goal.prepend-requires-clause-room
prepend-requires-clause-room g c = grind (arith, common_steps)

pub loop-i-init : goal.loop-i-init
loop-i-init g c = grind (arith, common_steps)
