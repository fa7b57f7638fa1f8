-- Lemmas.
pub mod Lists
pub mod KeyOrder
pub mod UnderLaws
pub mod FreeKeys
pub mod TakenKeys
pub mod OwnerLaws
pub mod HeldKeys
pub mod Plans
pub mod Room
pub mod Invariant
pub mod Faults
pub mod OneOutcome
pub mod PortLists
pub mod After
pub mod KeyStays
pub mod Births
pub mod Single
