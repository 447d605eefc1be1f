-- What the calls of each end answer, in words. Assumes nothing.
pub mod Sources
pub mod Desks
pub mod Masters
pub mod Due
