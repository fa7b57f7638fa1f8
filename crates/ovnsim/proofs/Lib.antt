-- Lemmas.
pub mod Admits
pub mod NameLaws
pub mod ReadOff
pub mod OneReading
pub mod OneRun
pub mod RunSteps
pub mod OneEvent
pub mod Stops
