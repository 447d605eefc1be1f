pub mod Layout
pub mod Record
pub mod Heads
pub mod States
pub mod Gatherers
pub mod Masters
pub mod Desks
