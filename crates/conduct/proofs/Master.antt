-- The master under any calls (rules M1 to M19). Assumes nothing.
pub mod Calls
pub mod Kept
pub mod Counts
pub mod Same
pub mod Ended
pub mod Timed
pub mod Due
pub mod PollTimes
pub mod Hears
pub mod Refused
pub mod Paper
pub mod Apart
