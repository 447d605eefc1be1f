-- The replay of a log by a fresh desk (rules Q9 to Q14). Assumes nothing.
pub mod Rows
pub mod Named
pub mod Texts
pub mod Bounds
pub mod Calls
pub mod Part
pub mod Pieces
pub mod State
pub mod Turn
pub mod Whole
pub mod Runs
