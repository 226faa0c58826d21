pub mod Command
pub mod Request
