-- After each comma the houses so far are those that the text before it names; a slash leaves the store.
use Rattle.std.proofs.{Common.{◌≡◌, ◌∷◌, ◌++◌, ◌-◌, [], arith, drop, length, take}, lemmas.Grind.{common_steps}}
use Rattle.kalah_jobs.{specs.{slash}, proofs.SideLemmas.{house_follows, no_store_follows, read_at_start, store_follows}}
use Rattle.kalah_jobs.proofs.line.side.Side.read.Goals as goal

pub loop-seeds-init : goal.loop-seeds-init
loop-seeds-init c = read_at_start c.args.bytes.now c.new-side.result c.new-side.ensures.houses c.new-side.ensures.none

pub returns-in-47-clause-read : goal.returns-in-47-clause-read
returns-in-47-clause-read c =
    let so_far = c.loop-seeds.invariant in
    let after = c.in_ok-seeds.after.now in
    let slash_next : after ≡ slash ∷ take (length after - 1) (drop 1 after) = grind (arith, common_steps) in
    record {
      houses = so_far.houses ++ c.in_ok-seeds.seeds ∷ [];
      are_kept = c.push.ensures.houses so_far.houses so_far.are_kept;
      read = store_follows so_far c.in_ok-seeds.ensures.read slash_next c.in_ok-store-in-47.ensures.read;
    }

pub loop-seeds-preserved : goal.loop-seeds-preserved
loop-seeds-preserved c =
    let so_far = c.loop-seeds.invariant in
    house_follows so_far c.in_ok-seeds.ensures.read (grind (arith, common_steps))
    (c.push.ensures.houses so_far.houses so_far.are_kept) c.push.ensures.one

pub returns-in_err-store-in-47-clause-none : goal.returns-in_err-store-in-47-clause-none
returns-in_err-store-in-47-clause-none c =
    let after = c.in_ok-seeds.after.now in
    let slash_next : after ≡ slash ∷ take (length after - 1) (drop 1 after) = grind (arith, common_steps) in
    rw c.from_residual-in_err-store-in-47.ensures
    (no_store_follows c.loop-seeds.invariant c.in_ok-seeds.ensures.read slash_next c.in_err-store-in-47.ensures.none)
