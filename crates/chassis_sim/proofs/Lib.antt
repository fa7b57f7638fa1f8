-- Lemmas.
pub mod Lookups
pub mod UnderlayLaws
pub mod TableChanges
pub mod ChassisLaws
pub mod Fronts
pub mod Outcomes
pub mod Emptying
pub mod Rezoning
pub mod ZoneNumbers
pub mod Readiness
pub mod Passages
