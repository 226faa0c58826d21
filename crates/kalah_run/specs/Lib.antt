pub mod Limits
pub mod Desk
pub mod Queue
pub mod Batch
pub mod Types
pub use Batch.Answering.*
pub use Batch.AtWork.*
pub use Batch.Leaving.*
unfoldable pub use Batch.OrderedOutput.*
pub use Batch.Running.*
pub use Desk.Rows.*
pub use Desk.States.*
pub use Limits.*
pub use Queue.States.*
pub use Types.*
