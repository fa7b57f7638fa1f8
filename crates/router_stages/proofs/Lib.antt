-- Lemmas.
pub mod ExitLaws
pub mod Gateways
pub mod PortUnits
pub mod RouterUnits
pub mod RouteUnits
pub mod NeighbourUnits
