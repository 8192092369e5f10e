pub mod Betweens
pub mod Steps
pub mod Cells
pub mod Opening
pub mod Finds
pub mod Fails
