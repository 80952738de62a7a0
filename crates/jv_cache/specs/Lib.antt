-- The definitions that contracts cite.
pub mod Keys
pub mod Cached
pub mod Loans
