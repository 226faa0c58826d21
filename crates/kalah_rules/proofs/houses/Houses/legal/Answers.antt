-- After house h the moves are the houses up to it that have seeds.
use Rattle.std.proofs.Common.{◌≡◌, ◌+◌, ◌-◌, sym, arith, refl, lt-ltb, append-nil, nat_lt, true, false, le-ltb}
use Rattle.kalah_rules.specs.{seeds}
use Rattle.kalah_rules.proofs.{PlayLemmas.{filter_range-suc, length-filter_range}, houses.Houses.legal.Goals.{then-own-gt0, else-own-gt0}}
use Rattle.kalah_rules.proofs.houses.Houses.legal.Goals as goal

pub push-requires : goal.push-requires
push-requires c =
    let few = length-filter_range (λ i. nat_lt 0 (seeds c.args.self.now.own i)) 1 (c.loop-h.h - 1) in
    rw c.loop-h.invariant (omega arith)

pub loop-h-preserved : goal.loop-h-preserved
loop-h-preserved c =
    let at : c.loop-h.h + 1 - 1 ≡ c.loop-h.h - 1 + 1 = omega arith in
    let more = filter_range-suc (λ i. nat_lt 0 (seeds c.args.self.now.own i)) 1 (c.loop-h.h - 1) c.loop-h.h (omega arith) in
    elim c.if-own-gt0.branch [
      | then-own-gt0 w ↦
          let some : nat_lt 0 (seeds c.args.self.now.own c.loop-h.h) ≡ true =
          lt-ltb _ _ (omega arith) in
          rw (w.moves-is, w.push.ensures, c.loop-h.invariant, at, more, some) refl
      | else-own-gt0 w ↦
          let none : nat_lt 0 (seeds c.args.self.now.own c.loop-h.h) ≡ false =
          le-ltb _ _ (omega arith) in
          rw (w.moves-is, c.loop-h.invariant, at, more, none) (sym (append-nil _))
    ]
