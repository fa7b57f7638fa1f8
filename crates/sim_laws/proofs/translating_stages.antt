-- The two pipelines of a router, be it one that translates or not, stage by stage.
pub mod AnyCopiesOn
pub mod AnyEntry
pub mod AnyIn
pub mod AnyOut
pub mod AnyPassing
pub mod AnyRegisters
pub mod AnyTables
pub mod AnyWays
