-- What clients that have files open may rely on.
pub mod HoldingLaws
pub mod KeptFilesLaws
pub mod KeptOperationLaws
