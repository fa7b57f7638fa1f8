-- Definitions that contracts cite.
pub mod Stages
pub mod FlowText
