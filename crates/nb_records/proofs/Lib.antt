-- Lemmas.
pub mod AnyLaws
pub mod Services
