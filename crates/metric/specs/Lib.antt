pub mod Model
pub mod Laws
pub mod Metrics
pub mod Bounds
pub mod Steady
pub mod Squared
