-- The requests of a flush, and what comes after it.
pub mod AfterCommitLaws
pub mod AfterFlushLaws
pub mod CommitCallLaws
pub mod CommitLaws
pub mod CommittedLaws
pub mod EndsAfterLaws
pub mod FlushLaws
pub mod PutBlockLaws
pub mod RefusedCommitLaws
