-- Which units are lowered to the same flows.
pub mod KnownNames
pub mod KnownTerms
pub mod KnownRows
pub mod KnownPorts
pub mod KnownRouters
pub mod KnownSwitches
pub mod SameFlows
pub mod SameRules
pub mod SameUnits
pub mod TouchedRows
