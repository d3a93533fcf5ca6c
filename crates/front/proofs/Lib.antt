pub mod Marked
pub mod Ring
pub mod Queued
