-- Membership in lists, and equality by codes.
pub mod Among
pub mod Once
pub mod ByCode
