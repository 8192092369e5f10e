pub mod Meaning
pub mod Changes
pub mod Fits
