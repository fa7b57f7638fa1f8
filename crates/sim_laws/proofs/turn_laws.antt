-- Lemmas on turns of the configuration, on the simulated chassis.
pub mod SetEntries
pub mod FlowChanges
pub mod TurnedLists
pub mod RouterZones
pub mod TurnedChassis
pub mod ComingHome
pub mod KeepingTurns
pub mod BoundPorts
