-- What the contracts of the sets cite.
pub mod Members
pub mod Bits
pub mod Small
pub mod Parts
pub mod Wide
