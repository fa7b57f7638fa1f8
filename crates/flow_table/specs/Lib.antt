-- Definitions that contracts cite.
pub mod Matching
pub mod Change
pub mod HeldFlows
pub mod Causes
