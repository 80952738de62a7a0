-- Runs of lines: where they start, what they reach, and how they end.
pub mod ActLaws
pub mod CommandLaws
pub mod EndLaws
pub mod EntryLaws
pub mod FormattedLaws
pub mod FreshLaws
pub mod LinesDoneLaws
pub mod NextSessionLaws
pub mod ReachedLaws
pub mod ScriptEndLaws
pub mod StageLaws
pub mod StepLaws
