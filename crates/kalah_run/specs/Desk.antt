pub mod Rows
pub mod Protocol
pub mod States
