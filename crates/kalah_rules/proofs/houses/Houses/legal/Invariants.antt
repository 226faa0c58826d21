use Rattle.std.{proofs.Common.{◌≡◌, ◌-◌, filter, nat_lt}, specs.List.{range_with_len}}
use Rattle.kalah_rules.specs.{seeds}
use Rattle.kalah_rules.proofs.houses.Houses.legal.Given as goal

abbrev pub invariant-loop-h : goal.invariant-loop-h
invariant-loop-h l = l.moves ≡ filter (λ i. nat_lt 0 (seeds l.self.own i)) (range_with_len 1 (l.h - 1))
