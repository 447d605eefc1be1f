pub mod Characters
pub mod Checksum
pub mod Marks
