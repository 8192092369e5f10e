-- Lemmas on sets; the public ones serve the crates above as well.
pub mod Joining
pub mod Counts
pub mod Lists
pub mod Canonical
mod Digits
mod Words
mod Parts
