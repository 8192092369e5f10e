pub mod Progress
pub mod Growing
pub mod Reads
pub mod Next
pub mod Forms
pub mod Sheets
pub mod Answers
