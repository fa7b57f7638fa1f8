-- Definitions that contracts cite.
pub mod Frames
pub mod Play
pub mod Records
pub mod Switch
pub mod Arrivals
pub mod Routers
pub mod Balancers
pub mod Rules
pub mod Precedence
