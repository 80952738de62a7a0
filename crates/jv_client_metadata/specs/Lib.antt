-- What is said of operations on metadata.
pub mod Attempts
