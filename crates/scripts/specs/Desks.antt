-- Rows of the desk. Assumes nothing.
pub mod Printing
pub mod Calls
pub mod Altering
pub mod Behind
