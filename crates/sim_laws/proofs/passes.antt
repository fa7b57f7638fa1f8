-- A pass through a switch, from the first table to the last.
pub mod RowSteps
pub mod Ends
pub mod LiveNumbers
pub mod Leaving
pub mod Members
pub mod OnePort
pub mod GroupCopies
pub mod Sending
pub mod Visiting
pub mod Identities
pub mod Arriving
pub mod Whole
