-- Lemmas.
pub mod Counted
pub mod Joined
pub mod LoweredRows
pub mod LoweredStores
pub mod NorthPlans
pub mod Pairs
pub mod Reached
pub mod ReachedUnits
pub mod RowUnits
pub mod Stores
pub mod untouched
