-- The definitions that the contracts of the crate cite.
pub mod Span
pub mod Align
pub mod Full
pub mod Examples
pub mod AlignLaws
pub mod Rests
pub mod Absence
pub mod SpanLaws
