-- Journals that no POSIX tree allows.
pub mod RefusalLaws
pub mod RefusedChangesExamples
pub mod RefusedCleaningsExamples
pub mod RefusedCommitsExamples
pub mod RefusedJournalsExamples
pub mod RefusedOrderExamples
pub mod RefusedReadsExamples
pub mod RefusedStepsExamples
