-- Definitions that contracts cite.
pub mod formers
pub mod addresses
pub mod names
pub mod lists
pub mod numbers
pub mod lines
pub mod streams
