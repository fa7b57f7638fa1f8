-- Definitions that contracts cite.
pub mod Tables
pub mod Relations
pub mod Faults
pub mod Constants
pub mod Tokens
pub mod Input
pub mod Cursor
pub mod Values
pub mod Grammar
pub mod Reading
pub mod Spelling
pub mod Nesting
pub mod FirstFault
