pub mod Bytes
pub mod One
pub mod Loop
pub mod Faults
pub mod Canon
pub mod Whole
