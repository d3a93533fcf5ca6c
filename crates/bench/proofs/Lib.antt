pub mod Nearest
pub mod Deepest
pub mod Alike
pub mod Passed
pub mod Steps
pub mod RunLaw
