pub mod Truth
pub mod Text
pub mod Numerals
