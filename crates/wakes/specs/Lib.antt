-- What the contracts of the index cite.
pub mod Naming
pub mod Parts
pub mod Passing
pub mod Indexes
