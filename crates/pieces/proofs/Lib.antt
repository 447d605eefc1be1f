pub mod Kept
pub mod Moved
pub mod Named
pub mod Checks
pub mod Runs
