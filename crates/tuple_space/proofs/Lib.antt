-- Lemmas.
pub mod RankLaws
pub mod FallLaws
pub mod TurnLaws
pub mod MapLaws
pub mod BunchLaws
pub mod TableLaws
pub mod NumberLaws
pub mod SpaceLaws
pub mod MaskLaws
pub mod LineLaws
pub mod LookLaws
pub mod EachLaws
pub mod ClearLaws
pub mod SieveLaws
