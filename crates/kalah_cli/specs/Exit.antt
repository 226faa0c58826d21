pub mod Status
pub mod Failure
pub mod Ends
