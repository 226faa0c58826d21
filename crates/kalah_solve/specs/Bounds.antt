pub mod Intervals
pub mod Won
