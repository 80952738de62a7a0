-- What is proved of operations on metadata.
pub mod AttemptLaws
