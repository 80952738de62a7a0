-- What is proved of transactions on entries.
pub mod entries
pub mod losses
pub mod moves
