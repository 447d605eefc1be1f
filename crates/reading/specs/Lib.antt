pub mod Frame
pub mod DataField
pub mod Contents
pub mod Reading
