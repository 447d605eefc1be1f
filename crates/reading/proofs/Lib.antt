pub mod Framing
pub mod Walk
pub mod Filled
pub mod Contents
