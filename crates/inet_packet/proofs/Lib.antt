-- Lemmas.
pub mod Lists
pub mod Ip4
pub mod DecodeLaws
pub mod Exactness
pub mod OnePacket
pub mod SumLaws
pub mod RewriteLaws
pub mod RewriteSteps
pub mod Samples
