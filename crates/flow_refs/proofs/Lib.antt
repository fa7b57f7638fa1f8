-- Lemmas.
pub mod Lookups
pub mod ApplyLaws
pub mod CountLaws
pub mod PutLaws
pub mod ForCallers
pub mod HoldLaws
pub mod Deltas
pub mod Midway
pub mod Numbers
pub mod PlaceLaws
pub mod SetLaws
pub mod StayLaws
