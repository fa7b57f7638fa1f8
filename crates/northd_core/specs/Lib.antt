-- Definitions that contracts cite.
pub mod RulesOn
pub mod Routed
pub mod Listing
pub mod Held
pub mod Plans
pub mod Lowering
pub mod Untouched
pub mod Touched
