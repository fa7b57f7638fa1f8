-- Definitions that contracts cite.
pub mod Origins
pub mod Counts
pub mod Difference
pub mod Store
