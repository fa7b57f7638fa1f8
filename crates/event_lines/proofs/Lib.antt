-- Lemmas.
pub mod Pieces
pub mod Feeds
pub mod BackendWords
pub mod RefusalFeeds
pub mod PickLines
