-- Ethernet and IPv4 addresses, and the texts that spell them.
pub mod EtherAddress
pub mod SixBytes
pub mod AddressText
pub mod AddressReading
