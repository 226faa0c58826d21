-- The table with which a solver begins.
use Rattle.std.specs.Prelude.{◌≡◌, ℕ}
use Rattle.kalah_solve.specs.{Table.Entries.{empty_table}, declared.solver.Solver.{Solver}}

-- the solver has an empty table with room for this many entries
abbrev pub HasEmptyTable : {A : Type 0} → ℕ → Solver A → Type 0
HasEmptyTable entries s = s.search.table ≡ empty_table entries
