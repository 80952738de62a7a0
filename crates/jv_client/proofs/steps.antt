-- Steps: a request, an answer, a transaction.
pub mod AnswerLaws
pub mod AnsweredAtOnceLaws
pub mod ChangeCallLaws
pub mod ClosingLaws
pub mod FileChangeLaws
pub mod RefusedTransactionLaws
pub mod RequestMadeLaws
pub mod StepOfLaws
pub mod TransactionCallLaws
pub mod TransactionLaws
