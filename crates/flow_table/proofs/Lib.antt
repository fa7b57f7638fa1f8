-- Lemmas.
pub mod Best
pub mod ChangeLaws
pub mod OnceLaws
pub mod Numbers
