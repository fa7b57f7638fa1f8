-- Rows that agree wherever a packet is.
pub mod TwoRows
pub mod GradedStages
pub mod StateRows
pub mod StateStages
pub mod ArpStage
pub mod LookupStage
pub mod TwoRouterRows
pub mod GradedRouterStages
pub mod RouterAnswers
pub mod RouterRoutes
pub mod RouterNeighbours
pub mod FlowsAgree
pub mod EachAgrees
