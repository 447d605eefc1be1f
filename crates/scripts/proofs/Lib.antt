pub mod Meant
pub mod Filled
pub mod Queue
pub mod Digits
pub mod Tables
