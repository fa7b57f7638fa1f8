-- Definitions and the law that the unit cites.
pub mod BalancerList
pub mod BalancerLaw
