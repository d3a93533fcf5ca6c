pub mod Pixels
pub mod Keys
pub mod Images
pub mod Refusals
pub mod Orders
