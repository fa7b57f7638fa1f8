-- What holds of valid records, and searches in them.
pub mod Searches
pub mod ValidPorts
pub mod SwitchPorts
pub mod AnsweredIps
pub mod VipHolders
pub mod StandsFor
pub mod OnePrefix
pub mod NatHolders
pub mod Services
