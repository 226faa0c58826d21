pub mod Entries
pub mod RowRank
pub mod EndingTable
pub mod SlotTable
