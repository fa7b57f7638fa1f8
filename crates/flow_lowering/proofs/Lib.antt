-- Lemmas.
pub mod FlowSteps
pub mod CubeParts
pub mod RegisterLaws
pub mod LoweringLaws
