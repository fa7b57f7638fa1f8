pub mod Layout
pub mod Meaning
pub mod Fields
pub mod Answers
