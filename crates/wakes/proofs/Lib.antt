-- The lemmas on the index.
mod Naming
mod Totals
mod Growing
mod Waking
mod Force
