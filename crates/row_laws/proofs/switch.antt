-- The stages of a switch, and the table of states.
pub mod AdmitStage
pub mod PortSecurityStage
pub mod TrackStages
pub mod StateTable
pub mod StateStages
pub mod StateInStage
pub mod ArpStage
pub mod LookupStage
pub mod SecurityOutStage
pub mod RuleStages
pub mod Passing
pub mod EnterExit
pub mod EachStage
