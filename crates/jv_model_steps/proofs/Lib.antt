-- What is proved of steps.
pub mod AnswerStepLaws
pub mod ChangeStepLaws
pub mod CommitStepLaws
pub mod CommitTestLaws
pub mod EntryLaws
pub mod FlushStepLaws
pub mod GiftLaws
pub mod LookStepLaws
pub mod ReadStepLaws
pub mod ReadyLaws
pub mod RefusalStepLaws
pub mod SessionLaws
pub mod StepFormLaws
pub mod TransactionStepLaws
pub mod TreeChangeLaws
