-- The limits of a position.
use Rattle.std.specs.Prelude.{ℕ}
use Rattle.kalah_rules.specs.declared.limits.TheConstants.{MOST_DEPTH, MOST_HOUSES, MOST_SEEDS, MOST_IN_STORE, MOST_IN_PLAY}

-- houses a side
abbrev pub most_houses : ℕ
most_houses = MOST_HOUSES

-- seeds in the houses of both players together
abbrev pub most_seeds : ℕ
most_seeds = MOST_SEEDS

-- seeds in a store of a position as it is given
abbrev pub most_in_store : ℕ
most_in_store = MOST_IN_STORE

-- seeds in a store together with all that may be added to it
abbrev pub most_in_play : ℕ
most_in_play = MOST_IN_PLAY

-- moves of the ways that are counted
abbrev pub most_depth : ℕ
most_depth = MOST_DEPTH
