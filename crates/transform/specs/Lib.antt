pub mod Settled
pub mod Erosion
pub mod Parallel
pub mod Directional
pub mod Raster
pub mod Free
pub mod Examples
