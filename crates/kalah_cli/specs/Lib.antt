pub mod Arguments
pub mod Commands
pub mod System
pub mod Exit
pub mod Runs
pub mod KnownRuns
pub use Arguments.Command.*
pub use Arguments.Request.*
pub use Commands.Files.*
pub use Commands.Ask.*
pub use Commands.Count.*
unfoldable pub use Commands.Game.*
pub use Commands.GameSolver.*
pub use Commands.LineCommand.*
pub use Commands.Moves.*
pub use Commands.Play.*
pub use Commands.Printing.*
unfoldable pub use Commands.Show.*
pub use Exit.Ends.*
pub use Exit.Failure.*
pub use Exit.Status.*
pub use KnownRuns.*
pub use Runs.*
pub use System.Sources.*
