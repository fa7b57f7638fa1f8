-- Definitions that contracts cite.
pub mod Actions
pub mod Acts
pub mod Advance
pub mod Beginning
pub mod Commits
pub mod Framed
pub mod Growth
pub mod Headers
pub mod OneWalk
pub mod Outcome
pub mod Plain
pub mod PlainWalk
pub mod Proper
pub mod Range
pub mod Tracking
pub mod Walk
pub mod Zones
