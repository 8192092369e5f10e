-- The lemmas of the crate.
pub mod Order
pub mod TidyLaws
pub mod Extensional
pub mod Turns
pub mod Narrows
