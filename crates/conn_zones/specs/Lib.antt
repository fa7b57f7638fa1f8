-- Definitions that contracts cite.
pub mod NameMaps
pub mod Zoning
pub mod Rezoning
pub mod Giving
