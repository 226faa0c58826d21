pub mod Protocol
pub mod States
