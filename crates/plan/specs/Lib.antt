pub mod Forms
pub mod Known
pub mod Items
pub mod Names
pub mod Placements
