-- What is said of transactions on the bytes of files.
pub mod Resizing
pub mod Committing
pub mod Changing
pub mod Records
pub mod Truncating
pub mod Copying
