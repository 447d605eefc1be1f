pub mod Times
pub mod Desk
pub mod Master
