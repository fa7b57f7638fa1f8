-- Lemmas.
pub mod Lists
pub mod ChangeLaws
pub mod FreeLaws
pub mod PlaceLaws
pub mod GivingLaws
pub mod ZoneLists
pub mod ZoneChanges
pub mod NameMaps
pub mod NamedLaws
pub mod OneResult
pub mod ForCallers
