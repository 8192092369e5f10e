pub mod Making
pub mod Checks
pub mod Solutions
pub mod Building
