-- Definitions and laws that contracts cite.
pub mod SwitchTests
pub mod SecurityRows
pub mod StateGroups
pub mod PortRows
pub mod SwitchLists
pub mod UnitLaws
