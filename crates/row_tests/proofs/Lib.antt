-- Lemmas.
pub mod Texts
pub mod SwitchLines
pub mod RouterLines
