pub mod Checks
pub mod Peaks
