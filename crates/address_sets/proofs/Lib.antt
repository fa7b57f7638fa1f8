-- Lemmas.
pub mod Differences
