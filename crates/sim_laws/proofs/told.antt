-- Lemmas on what the ends of journeys tell of.
pub mod Told
pub mod Found
pub mod Picked
pub mod Switching
pub mod Routing
pub mod Visiting
pub mod Travelling
pub mod Named
