-- What is proved of networks.
pub mod Promises
pub mod Inside
pub mod Excluded
