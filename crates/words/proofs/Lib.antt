-- Lemmas on the reader: its table, its turns, where words stand, and which lines have which words.
pub mod Table
pub mod Classes
pub mod Fronts
pub mod Scan
pub mod Spelling
pub mod Opens
pub mod Written
pub mod Laid
pub mod Samples
