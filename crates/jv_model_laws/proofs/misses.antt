-- Why blocks are missed.
pub mod CompactionLookLaws
pub mod LetGoLaws
pub mod MissLaws
pub mod OperationLaws
