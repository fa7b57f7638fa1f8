-- Definitions that contracts cite.
pub mod Lines
pub mod Picks
pub mod Refusals
pub mod Text
