-- What the tables of a router's two pipelines do, and what is done with connection lists where it translates.
pub mod TranslatingWords
pub mod TranslatingLists
pub mod RouterStanding
pub mod RouterWays
pub mod Patches
pub mod RouterPass
pub mod Passing
pub mod Visits
