-- The definitions that the contracts of the crate cite.
pub mod Model
pub mod Laws
pub mod Derived
pub mod Both
pub mod BothLaws
