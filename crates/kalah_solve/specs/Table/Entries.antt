-- How a table of intervals is represented, and what it stores; no part of what is promised to players.
use Rattle.std.specs.Prelude.{◌≡◌, ◌<◌, ◌≤◌, ℕ, List, [], Contains}
use Rattle.kalah_rules.specs.{Position.{HousesState, AreWithinLimits}, Key.{key_of}}
use Rattle.kalah_solve.specs.{Solver.Worth.{houses_worth}, Bounds.Intervals.{Encloses}, declared.{bounds.interval.Interval.{Interval}, table.TheConstants.{MOST_ENTRIES}}}

-- the most entries of a table
abbrev pub most_entries : ℕ
most_entries = MOST_ENTRIES

-- a number of entries that a table may have room for
abbrev pub IsTableSize : ℕ → Type 0
IsTableSize entries = (0 < entries) × (entries ≤ most_entries)

-- a table as its caller knows it: its entries, the most recently used first, and how many there may be
pub record TableState : Type 0 where
  pub entries : List (ℕ × Interval)
  pub capacity : ℕ

-- a table with no entry yet
abbrev pub empty_table : ℕ → TableState
empty_table capacity = record { entries = []; capacity = capacity }

-- the key is the key of houses whose worth is in the interval
abbrev pub IsTrueEntry : ℕ × Interval → Type 0
IsTrueEntry e = (a : HousesState) × AreWithinLimits a × (key_of a ≡ e.0) × Encloses e.1 (houses_worth a)

-- each entry of the table is true of its key
abbrev pub AreTrueEntries : List (ℕ × Interval) → Type 0
AreTrueEntries es = (e : ℕ × Interval) → Contains es e → IsTrueEntry e
