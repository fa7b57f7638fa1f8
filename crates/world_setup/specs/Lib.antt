-- Definitions that contracts cite.
pub mod Built
pub mod Causes
pub mod Consistent
pub mod Editing
pub mod Frames
pub mod Ground
pub mod Holding
pub mod Homecoming
pub mod KeyCauses
pub mod KeyLines
pub mod Refusing
pub mod Setup
pub mod Step
pub mod Touched
pub mod TurnEvents
pub mod Turning
pub mod Zones
