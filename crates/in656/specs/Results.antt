-- What every call of the C face answers, as numbers. Assumes nothing.
pub mod Result
pub mod Telegrams
pub mod Desks
pub mod Masters
pub mod Logs
pub mod Frames
