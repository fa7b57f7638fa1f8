-- Definitions that contracts cite: what is wrong with an edit, and what it leaves.
pub mod Directions
pub mod OpFaults
pub mod Owners
pub mod Plans
pub mod Touched
pub mod EditLeaves
