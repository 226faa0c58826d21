-- Each round adds the ways that begin with one more legal house.
use Rattle.std.proofs.{Common.{arith, inl, inr, sym, ◌≡◌, ◌+◌, ◌-◌, ◌∙◌}, lemmas.Bool.Decides.{nat_tests}}
use Rattle.kalah_rules.{specs.{storeless, HoldsSeeds}, proofs.houses.Houses.+ways.Goals.{ways-then-own-gt0, ways-else-own-gt0}}
use Rattle.kalah_rules.proofs.{PlayLemmas.{holds_legal, legal_holds}, WaysLemmas.{ways_none, ways_over, ways_by_step, before_more, before_same, before_all, before_small, power_fits}}
use Rattle.kalah_rules.proofs.houses.Houses.+ways.Goals as goal

pub ways-returns-then-depth-eq0-clause-ways : goal.ways-returns-then-depth-eq0-clause-ways
ways-returns-then-depth-eq0-clause-ways t c =
    let none : c.args.depth ≡ 0 = omega arith in
    rw none (sym (ways_none (storeless c.args.self.now)))

pub ways-returns-then-is_over-clause-ways : goal.ways-returns-then-is_over-clause-ways
ways-returns-then-is_over-clause-ways t c =
    let more : c.args.depth - 1 + 1 ≡ c.args.depth = omega arith in
    sym (rw more at (ways_over (c.args.depth - 1) (storeless c.args.self.now) (sym c.is_over.ensures ∙ c.if-is_over.true)))

pub ways-ways_by-sum-requires : goal.ways-ways_by-sum-requires
ways-ways_by-sum-requires t c =
    let holds : HoldsSeeds (storeless c.args.self.now) c.loop-h.h = omega arith in
    let legal = holds_legal _ _ holds (sym c.is_over.ensures ∙ c.if-is_over.false) in
    (omega arith, (legal, omega arith))

pub ways-overflow_add-sum : goal.ways-overflow_add-sum
ways-overflow_add-sum t c =
    let counted = c.ways_by-sum.ensures in
    let small = before_small (before_more _ c.loop-h.invariant (omega arith) (omega arith) counted.ways counted.small) (omega arith) in
    omega (arith, power_fits (c.args.depth - 1) (omega arith))

pub ways-loop-h-preserved : goal.ways-loop-h-preserved
ways-loop-h-preserved t c = elim c.if-own-gt0.branch [
  | ways-then-own-gt0 w ↦
      let counted = w.ways_by-sum.ensures in
      rw w.sum-is (before_more _ c.loop-h.invariant (omega arith) (omega arith) counted.ways counted.small)
  | ways-else-own-gt0 w ↦ rw w.sum-is (before_same c.loop-h.invariant (omega arith) (omega arith))
]

pub ways-returns-clause-ways : goal.ways-returns-clause-ways
ways-returns-clause-ways t c =
    let more : c.args.depth - 1 + 1 ≡ c.args.depth = omega arith in
    rw more at (before_all c.loop-h.invariant (sym c.is_over.ensures ∙ c.if-is_over.false) (omega arith))

pub ways-returns-clause-small : goal.ways-returns-clause-small
ways-returns-clause-small t c =
    let more : c.args.depth - 1 + 1 ≡ c.args.depth = omega arith in
    rw more at (before_small c.loop-h.invariant (omega arith))

pub ways_by-new-requires-clause-first : goal.ways_by-new-requires-clause-first
ways_by-new-requires-clause-first t c = (legal_holds (storeless c.args.self.now) c.requires.legal).first

pub ways_by-new-requires-clause-last : goal.ways_by-new-requires-clause-last
ways_by-new-requires-clause-last t c = omega (arith, (legal_holds (storeless c.args.self.now) c.requires.legal).last)

pub ways_by-returns-then-depth-eq0-clause-ways : goal.ways_by-returns-then-depth-eq0-clause-ways
ways_by-returns-then-depth-eq0-clause-ways t c =
    let none : c.args.depth ≡ 0 = omega arith in
    rw none (sym (ways_none _))

pub ways_by-returns-in-Over-clause-ways : goal.ways_by-returns-in-Over-clause-ways
ways_by-returns-in-Over-clause-ways t c =
    let step = rw c.new.ensures at c.play_with.ensures.step in
    let ways = ways_by_step c.args.depth c.args.self.now c.args.h step c.in-Over.is in
    grind (arith, nat_tests)

pub ways_by-returns-in-Again-clause-ways : goal.ways_by-returns-in-Again-clause-ways
ways_by-returns-in-Again-clause-ways t c =
    let step = rw c.new.ensures at c.play_with.ensures.step in
    c.ways.ensures.ways ∙ elim c.in-Again.is [
      | inl again ↦ ways_by_step c.args.depth c.args.self.now c.args.h step again.1
      | inr turn ↦ ways_by_step c.args.depth c.args.self.now c.args.h step turn.1
    ]
