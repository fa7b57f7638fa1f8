-- Definitions that contracts cite.
pub mod Rows
pub mod Facts
pub mod SwitchRows
pub mod StateRows
pub mod RuleRows
pub mod BalancerRows
pub mod RouterRows
pub mod NatRows
pub mod Units
pub mod Admitting
pub mod Reads
