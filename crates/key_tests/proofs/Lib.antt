-- Lemmas.
pub mod RegisterLaws
