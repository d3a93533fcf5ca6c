pub mod Rows
mod Window
mod Settling
mod Walks
mod Grids
mod RowPhases
mod FourPhases
mod ScanWindow
