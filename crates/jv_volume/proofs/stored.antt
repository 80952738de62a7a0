-- Rows stay those of their tree with each small change.
pub mod EntryStepLaws
pub mod FileStepLaws
pub mod FilesLaws
pub mod NodeRowLaws
pub mod QuietLaws
pub mod StoredLaws
pub mod StoredStepLaws
pub mod StoringLaws
pub mod TableStepLaws
pub mod TreeOfLaws
