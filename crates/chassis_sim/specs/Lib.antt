-- Definitions that contracts cite.
pub mod State
pub mod Frames
pub mod InNames
pub mod Passing
pub mod Settings
pub mod Changing
pub mod Underlay
pub mod Tables
pub mod Holding
