pub mod Spreading
pub mod Orders
pub mod Within
