pub mod Entry
pub mod JobList
pub mod NamedBytes
pub mod Lines
pub mod Jobs
