-- The proof that lines and what they build have the same solutions.
pub mod Names
pub mod Growing
pub mod Sound
pub mod Reading
pub mod Extending
pub mod Solving
