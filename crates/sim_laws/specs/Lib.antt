-- Definitions that contracts cite.
pub mod journeys
pub mod passes
pub mod pipelines
pub mod routers
pub mod Effects
pub mod EndNames
pub mod Held
pub mod Naming
pub mod Passing
pub mod Sound
