-- Rows and trees that are written out, whole and broken.
pub mod BrokenExamples
pub mod BrokenRowsExamples
pub mod WholeRowsExamples
