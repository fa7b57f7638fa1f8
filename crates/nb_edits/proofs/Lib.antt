-- Lemmas.
pub mod Outports
pub mod DirectionLaws
pub mod OwnerLaws
pub mod OwnerLists
pub mod MarkLists
pub mod KindLists
pub mod KeyEdits
pub mod EditValidity
pub mod MarkOrder
pub mod MarkLaws
pub mod RecordLaws
pub mod TouchedLaws
pub mod EditSoundness
pub mod HealthLaws
