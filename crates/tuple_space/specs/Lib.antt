-- Definitions that contracts cite.
pub mod Masks
pub mod Ranked
pub mod Bunches
pub mod Turns
pub mod Sieving
pub mod Space
pub mod Same
pub mod Digests
pub mod Lines
