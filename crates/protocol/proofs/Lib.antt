pub mod Stepwise
pub mod Protocol
pub mod Laws
pub mod Tidy
pub mod Sim
