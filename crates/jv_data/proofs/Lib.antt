-- What is proved of transactions on the bytes of files.
pub mod commits
pub mod copies
pub mod files
pub mod lists
pub mod truncates
