-- Lemmas.
pub mod NatUnits
