-- Definitions and the law that the unit cites.
pub mod NatList
pub mod NatLaw
