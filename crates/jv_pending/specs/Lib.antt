-- The definitions that contracts cite.
pub mod Runs
pub mod Held
pub mod At
