pub mod Writing
pub mod Trips
