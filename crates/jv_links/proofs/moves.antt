-- Renames: to a free place, over another entry, and exchanges.
pub mod ExchangeLaws
pub mod ExchangeStepLaws
pub mod ExchangeTreeLaws
pub mod FreeMoveLaws
pub mod MoveEntryLaws
pub mod RenameAnswerLaws
pub mod RenameLaws
pub mod ReplaceLaws
