-- What is proved of transactions on sessions.
pub mod DraftLaws
pub mod SessionLaws
pub mod KeptLaws
pub mod FindingLaws
pub mod ClosingLaws
