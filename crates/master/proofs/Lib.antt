pub mod Positions
pub mod Verdicts
pub mod Ranges
pub mod Sends
pub mod Hears
pub mod Order
pub mod Timers
