-- What is proved of transactions on directories, files and attributes.
pub mod EnteringLaws
pub mod EnterLaws
pub mod NewPlaceLaws
pub mod MakeLaws
pub mod ReadingLaws
pub mod AttributeLaws
pub mod EdgeOrderLaws
pub mod DirectoryLaws
pub mod PageLaws
pub mod EntryReadLaws
