pub mod Asking
pub mod Collecting
pub mod Files
pub mod Limits
pub mod Line
pub mod Types
pub mod Writing
unfoldable pub use Asking.*
pub use Collecting.AnyOrder.*
pub use Collecting.CollectorEvents.*
pub use Collecting.CollectorLaw.*
pub use Collecting.CollectorState.*
pub use Collecting.Found.*
pub use Collecting.Held.*
pub use Collecting.OutcomeState.*
pub use Collecting.Refusals.*
pub use Collecting.Shares.*
unfoldable pub use Files.Entry.*
pub use Files.JobList.*
unfoldable pub use Files.Jobs.*
unfoldable pub use Files.Lines.*
pub use Files.NamedBytes.*
pub use Limits.*
pub use Line.Line.*
pub use Line.LineFault.*
pub use Line.LineLaws.*
unfoldable pub use Line.Reading.*
pub use Line.Side.*
pub use Types.*
unfoldable pub use Writing.Answer.*
pub use Writing.Counts.*
unfoldable pub use Writing.Output.*
unfoldable pub use Writing.Picture.*
pub use Writing.Player.*
unfoldable pub use Writing.PositionText.*
unfoldable pub use Writing.ValuesLine.*
pub use Writing.Sink.*
pub use Writing.Splitting.*
pub use Writing.Variation.*
