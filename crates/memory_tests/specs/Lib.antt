-- Definitions that contracts cite.
pub mod Compiled
