-- Definitions that contracts cite.
pub mod Draining
pub mod EventPasses
pub mod FramePackets
pub mod FrameReading
pub mod Inside
pub mod Outcome
pub mod PacketEvents
pub mod Packets
pub mod Picks
pub mod StepParts
pub mod Waiting
pub mod WorldView
