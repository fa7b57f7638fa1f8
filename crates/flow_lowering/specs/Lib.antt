-- Definitions that contracts cite.
pub mod Registers
pub mod LoweredFlows
pub mod LoweringLaw
