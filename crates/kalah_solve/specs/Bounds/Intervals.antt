-- Intervals of margins, and the numbers that a window distinguishes.
use Rattle.std.specs.{Prelude.{ℕ, ◌+◌, ◌*◌, ℤ, pos, neg_ℤ, ◌-ℤ◌, ◌≤ℤ◌}, Int.{int_max, int_min}}
use Rattle.kalah_rules.specs.Limits.{most_seeds}
use Rattle.kalah_solve.specs.declared.bounds.interval.Interval.{Interval}

-- houses are worth at most all seeds that they can hold, to one player or to the other
abbrev pub most_margin : ℤ
most_margin = pos most_seeds

abbrev pub least_margin : ℤ
least_margin = neg_ℤ most_margin

-- the numbers from the first to the last
abbrev pub from_to : ℤ → ℤ → Interval
from_to first last = record { lo = first; hi = last }

-- the number is in the interval
pub record Encloses (i : Interval) (z : ℤ) : Type 0 where
  pub low : i.lo ≤ℤ z
  pub high : z ≤ℤ i.hi

-- the number, raised to lo and lowered to hi
abbrev pub clamped : ℤ → ℤ → ℤ → ℤ
clamped lo hi z = int_max lo (int_min z hi)

-- the margin of a player who wins t of these seeds
abbrev pub margin_of : ℕ → ℕ → ℤ
margin_of t seeds = pos (2 * t) -ℤ pos seeds

-- half of a number, rounded down, and 0 for one below 0
pub record IsHalf (z : ℤ) (half : ℕ) : Type 0 where
  pub low : pos (half + half) ≤ℤ int_max (pos 0) z
  pub high : z ≤ℤ pos (half + half + 1)
