-- The lemmas of the crate.
pub mod Tests
pub mod Searches
pub mod Multiples
pub mod Betweens
pub mod Aligneds
pub mod Statements
