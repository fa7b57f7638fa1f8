-- Lemmas.
pub mod ReadsLaws
pub mod InOrder
pub mod Lists
pub mod SomeTests
