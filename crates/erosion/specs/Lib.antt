pub mod Memory
pub mod Views
pub mod Grids
pub mod Rounds
pub mod Window
pub mod Walks
pub mod Phases
