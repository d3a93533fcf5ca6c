pub mod Stepping
pub mod Skipping
pub mod Taking
pub mod Accepting
pub mod Judging
pub mod Rejoining
