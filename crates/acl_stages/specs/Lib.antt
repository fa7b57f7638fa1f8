-- Definitions and laws that the unit cites.
pub mod RuleLaw
