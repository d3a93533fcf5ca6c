pub mod Letters
pub mod Steps
pub mod Listing
