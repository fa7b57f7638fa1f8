-- Lemmas.
pub mod LeadLaws
pub mod SeenLaws
pub mod SwitchLeads
pub mod RouterLeads
pub mod VisitLeads
pub mod JourneyLaws
pub mod HopLaws
pub mod NearLaws
pub mod SpareLaws
pub mod SwitchSpares
pub mod RouterSpares
pub mod SparedJourneys
pub mod NewEntries
pub mod KeptEntries
pub mod ConnectionLaws
pub mod ListLaws
pub mod ListJourneys
