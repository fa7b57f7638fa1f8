-- Lemmas.
pub mod lowered
pub mod terms
pub mod records
pub mod units
pub mod suited
pub mod switch
pub mod agreeing
