-- What is said of transactions on entries.
pub mod Climbs
pub mod Linkable
pub mod Losses
pub mod Removable
pub mod Removals
pub mod Moves
pub mod Replacements
pub mod Exchanges
