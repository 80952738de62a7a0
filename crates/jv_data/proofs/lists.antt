-- Lists of records, and what their windows show.
pub mod CutListsLaws
pub mod DroppedLaws
pub mod ListChangeLaws
pub mod ListRowLaws
pub mod NewRecordLaws
pub mod PartsLaws
pub mod RecordsLaws
pub mod ShownLaws
