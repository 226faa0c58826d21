-- The two players of a board.
use Rattle.std.specs.Prelude.{ℕ, List}
use Rattle.kalah_rules.specs.Position.{Position}
use Rattle.kalah_jobs.specs.Types.{Player, Mover, Other}

-- the player's houses
abbrev pub houses_of : Player → Position → List ℕ
houses_of Mover p = p.own
houses_of Other p = p.other

-- the seeds in the player's store
abbrev pub store_of : Player → Position → ℕ
store_of Mover p = p.own_store
store_of Other p = p.other_store
