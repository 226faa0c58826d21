-- The row holds the cells so far, so a push fails only where they hold too many seeds; the second loop has found each later cell empty.
use Rattle.std.proofs.{Common.{ℕ, List, ◌≡◌, ◌≤◌, ◌<◌, ◌+◌, ◌-◌, ◌∙◌, ◌↔◌, All, arith, drop, get_or, length, length-take-le, refl, get_or-drop, length-drop}, lemmas.{Bool.{false≢true}, List.{Elements.{All-from_get_or}, Sums.{sum_by_more_le}}}}
use Rattle.kalah_rules.proofs.KeyLemmas.{sum-shown}
use Rattle.kalah_rules.proofs.houses.house_row.HouseRow.of_cells.Goals as goal

-- the cells from m on hold nothing if each of them is 0, and only then
none_past : (m : ℕ) (cells : List ℕ) → ((k : ℕ) → m ≤ k → k < length cells → get_or cells k 0 ≡ 0) ↔ All (λ x. x ≡ 0) (drop m cells)
none_past m cells = (
  λ each.
      All-from_get_or (λ x. x ≡ 0) _ 0 (λ k h. get_or-drop m cells k 0 ∙ each (m + k) (omega arith) (omega (arith, length-drop m cells))),
  λ none k low high.
      let at : m + (k - m) ≡ k = omega arith in
      rw (get_or-drop, at) at (none (k - m) 0 (omega (arith, length-drop m cells))),
)

pub returns-then-not-push-clause-valid : goal.returns-then-not-push-clause-valid
returns-then-not-push-clause-valid c = (
  λ e. absurd (false≢true e),
  λ can.
      let short = length-take-le c.loop-i.i c.args.cells.now (omega arith) in
      let few = sum_by_more_le (λ (y : ℕ). y) c.args.cells.now c.loop-i.i 0 (omega arith) in
      c.if-not-push.ensures.room.1 (rw c.loop-i.invariant.houses (omega arith, omega arith)),
)

pub returns-then-cells-i-gt0-clause-valid : goal.returns-then-cells-i-gt0-clause-valid
returns-then-cells-i-gt0-clause-valid c = (
  λ e. absurd (false≢true e),
  λ can.
      let empty = (none_past c.args.m c.args.cells.now).1 can.0 c.loop-i-2.i (omega arith) (omega arith) in
      absurd (omega arith),
)

pub returns-clause-valid : goal.returns-clause-valid
returns-clause-valid c = (
  λ e.
      let none = (none_past c.args.m c.args.cells.now).0 (λ k low high. c.loop-i-2.invariant k low (omega arith)) in
      let at : c.loop-i.i ≡ c.args.m = omega arith in
      (none, omega (arith, rw at at c.loop-i.invariant.few, sum-shown c.args.m _ (omega arith) c.requires none)),
  λ can. refl,
)
