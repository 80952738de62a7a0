-- The tree of files, and what each operation does to it.
pub mod Tree
pub mod Caller
pub mod Trash
pub mod FileBytes
