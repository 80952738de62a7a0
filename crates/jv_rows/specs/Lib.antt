-- The definitions that contracts cite.
pub mod promise
pub mod Reads
pub mod Tables
pub mod RoundTrips
pub mod Readings
pub mod Scans
pub mod Counts
pub mod Lists
pub mod FreshRows
pub mod Drafts
pub mod Transactions
pub mod Walks
pub mod Appending
