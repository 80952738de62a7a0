-- What the clauses of the top call rest on.
pub mod FiniteMap
pub mod Optional
pub mod Counts
pub mod Lists
pub mod Ranges
pub mod tree
pub mod script
pub mod client
pub mod journal
pub mod blocks
pub mod rows
