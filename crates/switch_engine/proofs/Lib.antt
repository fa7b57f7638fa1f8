-- Lemmas.
pub mod Choices
pub mod Doings
pub mod Filters
pub mod Fronts
pub mod ActKinds
pub mod Lists
pub mod Measure
pub mod OneWalkLaw
pub mod PlainLaw
pub mod Beginnings
pub mod Begun
pub mod Ranges
pub mod Settings
pub mod Wholes
pub mod Walks
pub mod WalkSteps
