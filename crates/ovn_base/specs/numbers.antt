-- Counts, and numbers in decimal.
pub mod Steps
pub mod NumberReading
