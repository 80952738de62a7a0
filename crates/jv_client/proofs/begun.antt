-- Operations in progress: how they begin, and what they still have to commit.
pub mod CoveredLaws
pub mod FirstRequestLaws
pub mod FormLaws
pub mod NextSegmentLaws
pub mod ReadyLaws
pub mod SubmissionLaws
pub mod ToCommitLaws
