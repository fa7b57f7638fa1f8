-- Definitions that contracts cite.
pub mod Members
