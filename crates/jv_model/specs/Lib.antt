-- The definitions that contracts cite, by what they are about.
pub mod promise
pub mod FiniteMap
pub mod Optional
pub mod Lists
pub mod tree
pub mod client
pub mod journal
pub mod blocks
pub mod rows
