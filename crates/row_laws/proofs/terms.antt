-- What the terms of rows say of packets.
pub mod Terms
pub mod PacketTerms
pub mod VipTerms
