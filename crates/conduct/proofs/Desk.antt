-- The desk under any calls (rules D1 to D19). Assumes nothing.
pub mod Waiting
pub mod Steps
pub mod Kept
pub mod Stored
pub mod Repeats
pub mod Faults
pub mod Timed
pub mod Due
pub mod Handled
pub mod Afterwards
pub mod Polls
pub mod Once
pub mod Cleared
pub mod Refused
pub mod Apart
