-- Definitions that contracts cite.
pub mod Ternary
pub mod Prefixes
pub mod Asked
pub mod Inwards
pub mod Points
pub mod Holds
pub mod Cubes
pub mod Width
pub mod Suited
pub mod Answer
pub mod Steps
