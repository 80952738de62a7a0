-- Journals that are legal, and what they print.
pub mod CleaningExamples
pub mod CloseToOpenExamples
pub mod CompactionExamples
pub mod CrashExamples
pub mod JournalRuns
pub mod LateCommitExamples
pub mod TreeJournalExamples
pub mod WritebackExamples
