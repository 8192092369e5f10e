-- What the words of a line are.
pub mod Class
pub mod Keywords
pub mod Words
pub mod Spelling
pub mod Laid
pub mod Examples
