use Rattle.std.proofs.Common.{◌-◌, ◌≤◌, ◌≡◌, max, min}
use Rattle.kalah_solve.specs.{won}
use Rattle.kalah_solve.proofs.search.Search.won_within.Given as goal

abbrev pub invariant-loop-low : goal.invariant-loop-low
invariant-loop-low g l = record {
  least : l.fn.asked.least ≤ l.low;
  ordered : l.low ≤ l.high;
  most : l.high ≤ l.fn.asked.most;
  beta : l.beta ≤ 32;
  same : max l.fn.asked.least (min l.fn.asked.most (won l.houses)) ≡ max l.low (min l.high (won l.houses));
}

abbrev pub decreases-loop-low : goal.decreases-loop-low
decreases-loop-low g l = l.high - l.low
