-- The stages of a router.
pub mod RouterUnits
pub mod TakenAtRouter
pub mod RouterNumbers
pub mod OwnIps
pub mod InputTerms
pub mod Reached
pub mod AdmitAtRouter
pub mod OwnAtRouter
pub mod InputAtRouter
pub mod BestWays
pub mod RouteAtRouter
pub mod NeighbourAtRouter
pub mod PlainAtRouter
pub mod EachAtRouter
pub mod TranslatesNothing
pub mod ThroughRouter
