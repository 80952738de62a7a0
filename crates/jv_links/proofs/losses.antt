-- How an inode loses an entry, and what becomes of it.
pub mod ClearingLaws
pub mod FateLaws
pub mod LossLaws
pub mod RemovalStepLaws
pub mod RemovingLaws
pub mod TargetLaws
pub mod TrashStepLaws
pub mod TrashingLaws
pub mod UnlinkLaws
