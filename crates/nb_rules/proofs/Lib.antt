-- Lemmas.
pub mod FirstNames
pub mod EachKind
pub mod Leasts
pub mod OneHolder
pub mod SumCaps
pub mod Validity
