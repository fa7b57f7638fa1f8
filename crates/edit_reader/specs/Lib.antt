-- Definitions that contracts cite.
pub mod Outcomes
pub mod Fields
pub mod Grammars
pub mod Vips
pub mod Tables
pub mod Records
pub mod Operations
pub mod Events
pub mod Fitting
