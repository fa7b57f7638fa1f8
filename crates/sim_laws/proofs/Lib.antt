-- Lemmas.
pub mod counts
pub mod journey_laws
pub mod passes
pub mod pipelines
pub mod router_lists
pub mod router_passes
pub mod router_stages
pub mod told
pub mod translating_stages
pub mod turn_laws
pub mod EffectNames
pub mod GroupNumbers
pub mod Homes
pub mod KeyLookups
pub mod Places
pub mod WaitingCrossings
pub mod WaitingLists
