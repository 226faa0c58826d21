use Rattle.std.proofs.Common.{◌≡◌, drop, map}
use Rattle.kalah_solve.specs.{move_value}
use Rattle.kalah_solve.proofs.solver.Solver.values.Given as goal

-- the values of the moves from place i on
abbrev pub invariant-loop-i : goal.invariant-loop-i
invariant-loop-i g l = l.values ≡ map (move_value l.board) (drop l.i l.moves)
