-- No move before place i has this rank, so the first one that has it is the one that is sought.
use Rattle.std.proofs.Common.{◌≡◌, ℕ, ◌+◌, ◌==◌, ◌∙◌, Bool, true, false, if◌then◌else◌, List, Some, find, drop, slice_get, arith, refl, sym}
use Rattle.kalah_solve.specs.declared.solver.move_values.MoveValue.{MoveValue}
use Rattle.kalah_jobs.proofs.ListLemmas.{items_from}
use Rattle.kalah_cli.specs.{rank_in}
use Rattle.kalah_cli.proofs.commands.show.move_of_rank.Goals as goal

-- the first of the moves from place i on is the one there, or is after it
sought : (t : MoveValue → Bool) (values : List MoveValue) (i : ℕ) (v : MoveValue) (found : Bool) → slice_get values i ≡ Some v
    → t v ≡ found → find t (drop i values) ≡ (if found then Some v else find t (drop (i + 1) values))
sought t values i v found is passes = rw (items_from values i v is, passes) refl

pub returns-then-rank_in-rank : goal.returns-then-rank_in-rank
returns-then-rank_in-rank c =
    sym (c.loop-i.invariant
    ∙ sought (λ v. rank_in c.args.values.now v == c.args.rank) c.args.values.now c.loop-i.i _ true c.get-value.ensures
    (rw (← c.rank_in.ensures) (grind arith)))

pub loop-i-preserved : goal.loop-i-preserved
loop-i-preserved c =
    c.loop-i.invariant
    ∙ sought (λ v. rank_in c.args.values.now v == c.args.rank) c.args.values.now c.loop-i.i _ false c.get-value.ensures
    (rw (← c.rank_in.ensures) (grind arith))
