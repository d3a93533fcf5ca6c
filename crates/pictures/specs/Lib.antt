pub mod Distances
pub mod Nearest
pub mod Bytes
pub mod Numbers
