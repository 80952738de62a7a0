-- Lemmas, and closed examples.
pub mod ScriptLaws
pub mod SummaryLaws
pub mod ScriptExamples
