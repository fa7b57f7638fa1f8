-- Lemmas.
pub mod SwitchRows
pub mod ArrivalRows
pub mod RouterRows
pub mod BalancerRows
pub mod Meanings
pub mod Verdicts
pub mod Steps
pub mod RuleRows
