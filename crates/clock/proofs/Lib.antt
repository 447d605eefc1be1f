pub mod Times
pub mod Apart
