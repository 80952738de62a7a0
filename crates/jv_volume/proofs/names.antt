-- Names of entries, of hours and of the trash.
pub mod EntryNameLaws
pub mod HourNameLaws
pub mod TrashNameLaws
