-- Definitions and laws that contracts cite.
pub mod InputRows
pub mod Exits
pub mod RouterLists
pub mod UnitLaws
