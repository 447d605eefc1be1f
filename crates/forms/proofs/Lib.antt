pub mod RowsOf
pub mod Found
pub mod Slots
