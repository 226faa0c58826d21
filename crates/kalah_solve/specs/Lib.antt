pub mod Solver
pub mod Table
pub mod Bounds
pub mod Search
pub mod WaitingTurns
pub mod HouseSet
unfoldable pub use Solver.Worth.*
pub use Solver.BestPlay.*
pub use Solver.Verdict.*
pub use Solver.Laws.*
pub use Solver.MoveValues.*
pub use Table.Entries.*
unfoldable pub use Table.RowRank.*
unfoldable pub use Table.SlotTable.*
unfoldable pub use Table.EndingTable.*
pub use Bounds.Intervals.*
unfoldable pub use Bounds.Won.*
pub use Search.*
pub use WaitingTurns.*
pub use HouseSet.*
