pub mod Refusals
pub mod Records
pub mod Answers
