pub mod Reasons
pub mod Tables
pub mod Telling
pub mod Firing
pub mod Stable
pub mod Theorems
