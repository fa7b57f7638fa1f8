-- Lemmas.
pub mod Lists
pub mod SwitchTests
pub mod PortUnits
pub mod Pushes
pub mod SwitchUnits
