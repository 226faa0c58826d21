pub mod Limits
pub mod Position
pub mod Sowing
pub mod Lap
pub mod Play
pub mod Measure
pub mod Ways
pub mod Laws
pub mod HousesStep
pub mod Cells
pub mod Key
pub mod Fields
pub mod SowingTable
pub use Limits.*
pub use Position.*
unfoldable pub use Sowing.*
pub use Lap.*
pub use Play.*
unfoldable pub use Measure.*
unfoldable pub use Ways.*
pub use Laws.*
pub use HousesStep.*
pub use Cells.*
pub use Key.*
pub use Fields.*
pub use SowingTable.*
