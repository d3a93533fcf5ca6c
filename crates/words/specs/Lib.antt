pub mod Parts
pub mod Words
pub mod Cases
pub mod Calls
pub mod Values
