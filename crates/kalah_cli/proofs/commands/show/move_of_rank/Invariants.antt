use Rattle.std.proofs.Common.{◌≡◌, ◌==◌, drop, find}
use Rattle.kalah_cli.specs.{move_of_rank, rank_in}
use Rattle.kalah_cli.proofs.commands.show.move_of_rank.Given as goal

-- the move is sought from place i on
abbrev pub invariant-loop-i : goal.invariant-loop-i
invariant-loop-i l = move_of_rank l.values l.rank ≡ find (λ v. rank_in l.values v == l.rank) (drop l.i l.values)
