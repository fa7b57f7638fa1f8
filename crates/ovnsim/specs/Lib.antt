-- Definitions that contracts cite.
pub mod Events
pub mod Next
pub mod Runs
pub mod Answers
pub mod Stops
pub mod Taking
