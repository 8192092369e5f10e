pub mod Tables
pub mod Told
pub mod Readings
pub mod Firing
