use Rattle.std.proofs.Common.{refl}
use Rattle.kalah_solve.proofs.HouseSetLemmas.{last_of_mask}
use Rattle.kalah_solve.proofs.house_set.HouseSet.pop_last.Goals as goal

pub overflow_sub-self : goal.overflow_sub-self
overflow_sub-self c = let last = last_of_mask c.if-self-eq0.false c.self.invariant refl in rw last.power last.last.low

pub at-requires : goal.at-requires
at-requires c = (last_of_mask c.if-self-eq0.false c.self.invariant refl).begins

pub invariant_of-self : goal.invariant_of-self
invariant_of-self c = let last = last_of_mask c.if-self-eq0.false c.self.invariant refl in rw last.power last.rest

pub returns : goal.returns
returns c =
    let last = last_of_mask c.if-self-eq0.false c.self.invariant refl in
    rw (← c.self.view_is, c.at.ensures, last.power) (last.last, refl)
