pub mod Least
pub mod Offsets
pub mod Rings
pub mod Rounds
pub mod Lines
pub mod Directional
pub mod Steady
pub mod Raster
