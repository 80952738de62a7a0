-- Entries that are found, and whether they may go, come or be linked.
pub mod ClimbingLaws
pub mod EmptinessLaws
pub mod EndsLaws
pub mod LinkableLaws
pub mod LinkingLaws
pub mod RemovableLaws
pub mod ReplaceableLaws
pub mod TrashEntryLaws
