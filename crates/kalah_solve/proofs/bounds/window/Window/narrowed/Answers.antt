-- If the ends meet or cross, each margin that the interval encloses gives the same answer; else the narrowed window leaves the answers.
use Rattle.std.{proofs.{Common.{arith, rules, w8, w32, SFits, ◌≤ℤ◌, ◌<ℤ◌, ◌≡◌}, lemmas.Int.{ints, to_z-of_z}}, specs.Int.{int_max, int_min}}
use Rattle.kalah_solve.proofs.{BoundsLemmas.{known_answers, narrowed_answers}, bounds.window.Window.narrowed.Goals.{After-min-hi}}
use Rattle.kalah_solve.proofs.bounds.window.Window.narrowed.Goals as goal

module _ (c : After-min-hi) where
  -- the ends that were compared (`simp` and `search` read that each number fits its width)
  lo_is : c.max-lo.result ≡ int_max c.args.self.lo c.args.known.lo
  lo_is =
      let self : SFits w32 c.args.self.lo = omega (arith, ints) in
      let known : SFits w8 c.args.known.lo = search rules in
      let wide : SFits w32 c.args.known.lo = search (rules, known) in
      simp to_z-of_z at c.max-lo.ensures.value

  hi_is : c.min-hi.result ≡ int_min c.args.self.hi c.args.known.hi
  hi_is =
      let self : SFits w32 c.args.self.hi = omega (arith, ints) in
      let known : SFits w8 c.args.known.hi = search rules in
      let wide : SFits w32 c.args.known.hi = search (rules, known) in
      simp to_z-of_z at c.min-hi.ensures.value

pub returns-then-hi-lo-clause-none : goal.returns-then-hi-lo-clause-none
returns-then-hi-lo-clause-none c = λ none z holds.
    let at = (goal.at.returns-then-hi-lo-clause-none c).After-min-hi in
    let lo_fits : SFits w32 c.max-lo.result = search rules in
    let hi_fits : SFits w32 c.min-hi.result = search rules in
    let closed : c.min-hi.result ≤ℤ c.max-lo.result = grind (arith, ints, simp to_z-of_z at c.if-hi-lo.true) in
    known_answers c.args.self.lo c.args.self.hi z c.args.known c.args.self.ordered holds (rw (← lo_is at, ← hi_is at) closed)

pub returns-else-hi-lo-clause-some : goal.returns-else-hi-lo-clause-some
returns-else-hi-lo-clause-some c = λ z holds.
    let at = (goal.at.returns-else-hi-lo-clause-some c).After-min-hi in
    let lo_fits : SFits w32 c.max-lo.result = search rules in
    let hi_fits : SFits w32 c.min-hi.result = search rules in
    let some : c.max-lo.result <ℤ c.min-hi.result = grind (arith, ints, simp to_z-of_z at c.if-hi-lo.false) in
    simp to_z-of_z (narrowed_answers c.args.self.lo c.args.self.hi z c.args.known holds (lo_is at) (hi_is at) some)

pub invariant_of-result : goal.invariant_of-result
invariant_of-result c = search rules

pub returns-else-hi-lo-clause-within_known : goal.returns-else-hi-lo-clause-within_known
returns-else-hi-lo-clause-within_known c = search rules

pub returns-else-hi-lo-clause-none : goal.returns-else-hi-lo-clause-none
returns-else-hi-lo-clause-none c = search rules
