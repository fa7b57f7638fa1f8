-- Lemmas.
pub mod FewNames
