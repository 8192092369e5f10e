-- Lemmas on the order in which numbers wait, and on the set of them.
mod Turning
mod Distinct
mod Keeping
