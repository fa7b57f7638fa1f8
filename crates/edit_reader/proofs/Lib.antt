-- Lemmas on reading.
mod Counts
mod Exits
mod FramesFit
mod Lines
mod Loops
mod NamesOnce
mod ReadGrammar
mod ReadSteps
mod RecordsFit
mod TablesFit
mod TextsFit
mod VipsFit
