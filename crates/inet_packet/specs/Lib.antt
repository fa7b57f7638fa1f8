-- Definitions that contracts cite.
pub mod Fields
pub mod Fits
pub mod BitsHash
pub mod Cubes
pub mod Frame
pub mod Sums
pub mod Whole
pub mod Reading
pub mod Rewrites
pub mod Transport
