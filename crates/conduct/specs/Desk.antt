-- The desk under any calls (rules D1 to D19): what is proved of it. Assumes nothing.
pub mod Calls
pub mod Kept
pub mod Refused
pub mod Repeats
pub mod Faults
pub mod Stored
pub mod Polls
pub mod Handled
pub mod Afterwards
pub mod Once
pub mod Cleared
pub mod Timed
pub mod Due
pub mod Apart
