-- Lemmas.
pub mod Tops
