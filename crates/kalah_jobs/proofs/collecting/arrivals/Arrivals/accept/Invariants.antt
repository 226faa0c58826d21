use Rattle.std.proofs.Common.{◌≡◌, ◌≤◌, ◌-◌, length, set, Some}
use Rattle.kalah_jobs.specs.{front_of}
use Rattle.kalah_jobs.proofs.collecting.arrivals.Arrivals.accept.Given as goal

abbrev pub invariant-loop-self : goal.invariant-loop-self
invariant-loop-self l = record {
  arrived : l.self-inside.arrived.items ≡ set l.fn.self.arrived l.line (Some l.fn.answer);
  taken : l.self-inside.taken ≡ l.fn.self.taken;
  low : l.before ≤ l.self-inside.front;
  within : l.self-inside.front ≤ front_of l.self-inside.arrived.items;
}

abbrev pub decreases-loop-self : goal.decreases-loop-self
decreases-loop-self l = length l.self-inside.arrived.items - l.self-inside.front
