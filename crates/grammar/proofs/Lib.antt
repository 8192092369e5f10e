-- Why the reading of a line keeps its promises.
pub mod ReadBack
pub mod Steps
pub mod Sound
pub mod Completions
pub mod Refusals
pub mod Samples
