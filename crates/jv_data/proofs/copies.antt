-- Copies of ranges.
pub mod CopiedLaws
pub mod CopyEndsLaws
pub mod CopyingLaws
