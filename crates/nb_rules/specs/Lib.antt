-- Definitions that contracts cite: what valid records are, clause by clause.
pub mod First
pub mod References
pub mod BadAddresses
pub mod Peers
pub mod Holders
pub mod Claims
pub mod Prefixes
pub mod Gateways
pub mod Widths
pub mod FirstBroken
pub mod Unbroken
pub mod Valid
