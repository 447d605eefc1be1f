pub mod Digits
pub mod Texts
pub mod Spelt
pub mod Recorded
