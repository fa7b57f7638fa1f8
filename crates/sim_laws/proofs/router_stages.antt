-- A router's stages: how a copy comes to the first, its next hops, numbers and packets.
pub mod FirstInRouter
pub mod NextHops
pub mod RouterCopiesOn
pub mod RouterDoings
pub mod RouterPackets
pub mod RouterRegisters
pub mod RouterSteps
