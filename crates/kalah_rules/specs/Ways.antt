-- The ways to play on from a position (perft).
use Rattle.std.specs.Prelude.{ℕ, zero, suc, sum_by}
use Rattle.kalah_rules.specs.{Position.{Position}, Play.{legal_houses, step_of, position_after}}

-- the number of ways to play on: sequences of exactly n moves by the rules. A game that is over has one way of no moves, and none of more
unfoldable pub ways : ℕ → Position → ℕ
ways zero p = 1
ways (suc n) p = sum_by (λ h. ways n (position_after (step_of p h))) (legal_houses p)

-- the number of ways to play on for n moves after the move of house h
abbrev pub ways_by : ℕ → Position → ℕ → ℕ
ways_by n p h = ways n (position_after (step_of p h))
