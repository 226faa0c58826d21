use Rattle.std.proofs.Common.{◌≤◌, ◌<◌, ℕ, get_or, Contains}
use Rattle.kalah_solve.proofs.search.waiting_turns.WaitingTurns.highest.Given as goal

abbrev pub invariant-loop-i : goal.invariant-loop-i
invariant-loop-i l = record {
  found : Contains l.self.priorities l.most;
  highest : (k : ℕ) → k < l.i → get_or l.self.priorities k 0 ≤ l.most;
}
