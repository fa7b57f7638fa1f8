-- Definitions that contracts cite.
pub mod Networks
pub mod Lines
pub mod Gateway
pub mod RouterLines
