-- Definitions that contracts cite.
pub mod Rows
pub mod Numbers
pub mod CanLower
pub mod ProperRows
pub mod BestRow
pub mod Distributed
pub mod AgreeAnywhere
pub mod AgreeTranslating
pub mod Copies
pub mod StageActions
pub mod StageLaws
pub mod Passages
pub mod Ways
pub mod routers
