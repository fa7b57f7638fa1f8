-- The stages of a router.
pub mod RouterCopies
pub mod RouterNumbers
pub mod RouterActions
pub mod RouterLaws
pub mod RouterThrough
pub mod TranslatingActions
pub mod TranslatingLaws
