-- Lemmas.
pub mod Left
pub mod NoRecords
