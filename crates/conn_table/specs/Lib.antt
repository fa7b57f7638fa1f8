-- Definitions that contracts cite.
pub mod Order
pub mod Tuples
pub mod Connections
pub mod Tracking
pub mod Picks
pub mod HeldPorts
