pub mod History
pub mod Demand
pub mod Ends
pub mod Rules
