-- The tree of files, and what each operation does to it.
pub mod Attempt
pub mod Tree
pub mod Changes
pub mod Walk
pub mod Caller
pub mod HourNames
pub mod Trash
pub mod Reading
pub mod Making
pub mod Removing
pub mod Renaming
pub mod Sessions
pub mod FileBytes
pub mod TreeAct
