-- The faults of lines.
use Rattle.std.specs.Prelude.{ℕ, List, codes}
use Rattle.kalah_jobs.specs.Types.{LineFault, Long, Empty, Shape, Houses, Seeds}

-- the word that is printed for a fault
abbrev pub fault_word : LineFault → List ℕ
fault_word Long = codes "long"
fault_word Empty = codes "empty"
fault_word Shape = codes "shape"
fault_word Houses = codes "houses"
fault_word Seeds = codes "seeds"

-- the order in which faults are looked for
abbrev pub order_of : LineFault → ℕ
order_of Long = 1
order_of Empty = 2
order_of Shape = 3
order_of Houses = 4
order_of Seeds = 5
