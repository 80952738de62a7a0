-- What is proved of puts of blocks.
pub mod PartLaws
pub mod PutStepLaws
pub mod UsedLaws
