-- What is said of transactions on the tree.
pub mod Entering
pub mod Attributes
pub mod Directories
