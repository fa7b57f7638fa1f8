-- Definitions that contracts cite.
pub mod Register
