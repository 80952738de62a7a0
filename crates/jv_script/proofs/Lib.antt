-- Lemmas on texts, their parts and repeats.
pub mod CutLaws
pub mod DataRoundTripLaws
pub mod DataTextLaws
pub mod DigitLaws
pub mod EntryLaws
pub mod EscapeLaws
pub mod HexTextLaws
pub mod HexValueLaws
pub mod PartLaws
pub mod PrintedDigitLaws
pub mod RepeatLaws
pub mod RoundTripLaws
pub mod ShortPartLaws
