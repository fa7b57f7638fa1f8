-- What the stages of NAT do with a router's connection lists.
pub mod AtSpots
pub mod Dnats
pub mod KnownHere
pub mod ListDoings
pub mod NatNumbers
pub mod NewHere
pub mod OwnLists
pub mod PickedPorts
pub mod Seeking
pub mod Snats
pub mod Undoing
