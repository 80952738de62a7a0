-- What operations do to a tree.
pub mod FileBytesExamples
pub mod HourNamesExamples
pub mod MakingExamples
pub mod RemovingExamples
pub mod RenamingExamples
pub mod SessionsExamples
pub mod TrashExamples
pub mod TreeExamples
pub mod TreeRuns
pub mod WalkExamples
