-- Lemmas.
pub mod Kept
pub mod BalancerUnits
