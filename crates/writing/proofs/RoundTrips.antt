-- What the round trips of reading and writing rest on. Assumes nothing.
pub mod Rows
pub mod Bytes
pub mod Values
pub mod Faults
pub mod Fields
pub mod Records
pub mod Frames
pub mod Checks
pub mod Written
pub mod Read
