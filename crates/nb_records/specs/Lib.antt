-- Definitions that contracts cite: the records as lists by name, and what follows from them.
pub mod Network
pub mod Switches
pub mod Routers
pub mod Neighbours
pub mod Ways
pub mod Grammar
pub mod Editing
