pub mod Listing
pub mod Part
pub mod Whole
pub mod Lister
pub mod Captures
pub mod Turn
pub mod Runs
pub mod Sample
