-- Lemmas on how many flows packets match.
pub mod AroundAgree
pub mod FlowsAgree
pub mod SameZones
pub mod SameFlows
pub mod Cames
pub mod OneWalks
pub mod Drains
