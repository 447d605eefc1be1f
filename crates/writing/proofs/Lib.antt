pub mod Put
pub mod Writes
pub mod Puts
pub mod RoundTrips
pub mod Trips
