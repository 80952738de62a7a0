-- Commits of bytes and of records.
pub mod BeginningLaws
pub mod CommitLaws
pub mod RecordCommitLaws
pub mod RecordedLaws
