-- Lemmas.
pub mod TupleLaws
pub mod IndexLaws
pub mod ZoneLaws
pub mod FindLaws
pub mod TranslateLaws
pub mod CommitLaws
pub mod HeldPortsLaws
