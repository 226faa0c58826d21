-- The rows of a desk: for each pass the numbers that it has drawn, and whether it is spent.
use Rattle.std.specs.Prelude.{◌≡◌, ℕ, ◌<◌, ◌≤◌, List, length, map, Bool, nat_lt, if◌then◌else◌, sum_by, count_by, All, AllPairs}
use Rattle.kalah_jobs.specs.Collecting.Shares.{times_in}
use Rattle.kalah_run.specs.Types.{DrawnRow}

abbrev pub drawn_row : List ℕ → Bool → DrawnRow
drawn_row numbers spent = record { numbers = numbers; spent = spent }

-- the numbers, row by row
abbrev pub drawn_numbers : List DrawnRow → List (List ℕ)
drawn_numbers rows = map (λ r. r.numbers) rows

-- the number of numbers in the rows
abbrev pub drawn_in : List DrawnRow → ℕ
drawn_in rows = sum_by (λ r. length r.numbers) rows

-- the number of spent passes
abbrev pub spent_in : List DrawnRow → ℕ
spent_in rows = count_by (λ r. r.spent) rows

-- The rows hold the first `drawn` of the numbers below the total: each number below `drawn` stands once in all rows together, and no
-- other in any; and each row ascends. A pass is spent only if all numbers are drawn.
pub record DealsEachOnce (total drawn : ℕ) (rows : List DrawnRow) : Type 0 where
  pub within : drawn ≤ total
  pub count : drawn ≡ drawn_in rows
  pub each_once : (number : ℕ) → times_in number (drawn_numbers rows) ≡ (if nat_lt number drawn then 1 else 0)
  pub ascending : All (λ row. AllPairs (λ x y. x < y) row.numbers) rows
  pub spent : 0 < spent_in rows → drawn ≡ total
