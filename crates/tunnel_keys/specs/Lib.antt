-- Definitions that contracts cite.
pub mod Grouped
pub mod Same
pub mod Order
pub mod Owners
pub mod Keys
pub mod Edits
pub mod Causes
pub mod Births
pub mod Giving
