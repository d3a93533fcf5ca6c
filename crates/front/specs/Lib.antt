pub mod Waiting
pub mod Memory
pub mod Fronts
