pub mod Tails
pub mod Line
pub mod Counts
pub mod Turns
pub mod Runs
