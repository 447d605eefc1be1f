pub mod Turns
pub mod Gather
pub mod Streams
pub mod Search
pub mod Telegrams
pub mod Looks
pub mod Cutting
pub mod Same
