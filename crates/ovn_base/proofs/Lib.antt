-- Lemmas.
pub mod AmongLaws
pub mod ByNameLaws
pub mod SameEntries
pub mod OnceLaws
pub mod AddressLemmas
pub mod DecimalLemmas
pub mod JoinedLemmas
pub mod MacLemmas
pub mod NameLemmas
mod NameOrder
pub mod Exact
pub mod SeparatorLaws
pub mod WhereToldLaws
pub mod LineLaws
pub mod WindowLaws
pub mod CutLaws
pub mod TakenBytes
pub mod LineSearch
pub mod StepLaws
