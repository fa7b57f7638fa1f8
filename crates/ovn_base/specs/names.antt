-- Names, and entries in order of name.
pub mod NameText
pub mod PaddedName
pub mod SameName
pub mod ByName
