pub mod Worth
pub mod BestPlay
pub mod Verdict
pub mod Laws
pub mod MoveValues
pub mod EmptyTable
