pub mod Puts
pub mod Counts
pub mod Parsed
pub mod FourBytes
pub mod Hexes
pub mod Shown
pub mod Rows
pub mod Values
