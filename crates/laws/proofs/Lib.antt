pub mod Tests
pub mod Stretch
pub mod Truths
pub mod Listed
pub mod Passes
pub mod Digits
pub mod Keys
