use Rattle.std.proofs.Common.{◌+◌, ◌-◌, ◌*◌}
use Rattle.kalah_rules.{specs.{storeless}, proofs.WaysLemmas.{AreWaysBefore}}
use Rattle.kalah_rules.proofs.houses.Houses.+ways.Given as goal

abbrev pub decreases-ways : goal.decreases-ways
decreases-ways l = 2 * l.depth

abbrev pub decreases-ways_by : goal.decreases-ways_by
decreases-ways_by l = 2 * l.depth + 1

-- the ways after the moves of the houses so far
abbrev pub invariant-ways-loop-h : goal.invariant-ways-loop-h
invariant-ways-loop-h l = AreWaysBefore (l.depth - 1) (storeless l.self) l.h l.sum
