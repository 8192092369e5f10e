-- The definitions that the contracts of the crate cite.
pub mod Numbers
pub mod Search
pub mod Between
pub mod Aligned
pub mod Statements
