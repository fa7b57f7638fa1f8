-- Lemmas.
pub mod RuleRow
