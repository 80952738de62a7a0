-- Walks along a path.
pub mod ArrivalLaws
pub mod CourseLaws
pub mod EntryLaws
pub mod NameStepLaws
pub mod WalkLaws
