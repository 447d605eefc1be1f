pub mod Marks
pub mod Records
pub mod Reader
pub mod Inside
pub mod Whole
pub mod Again
pub mod Writer
pub mod Order
