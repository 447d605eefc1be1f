pub mod Parts
pub mod Codes
