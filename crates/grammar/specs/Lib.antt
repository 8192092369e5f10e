-- The lines of a sheet: their trees, how they are read, and what the reading promises.
pub mod Tree
pub mod Parse
pub mod Reading
pub mod Examples
