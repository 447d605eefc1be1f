pub mod Kinds
pub mod Meanings
pub mod Numbers
pub mod Printing
pub mod Tellings
pub mod Desks
pub mod Masters
