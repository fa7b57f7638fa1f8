-- Selection among the flows of a table, told by rows.
pub mod PortKeys
pub mod InNames
pub mod BestRows
pub mod NarrowCubes
pub mod NarrowFlows
pub mod LowBits
