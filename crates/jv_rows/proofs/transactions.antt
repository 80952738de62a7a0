-- Transactions and their drafts.
pub mod DraftLaws
pub mod NeedingLaws
pub mod ReadingPartLaws
pub mod TransactionLaws
