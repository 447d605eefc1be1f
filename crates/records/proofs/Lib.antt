pub mod Apart
pub mod Again
