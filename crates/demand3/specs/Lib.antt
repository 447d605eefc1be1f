pub mod Ours
pub mod Allowed
pub mod Live
pub mod Runs
pub mod Outside
pub mod LiveRuns
pub mod Verdicts
pub mod Theorems
