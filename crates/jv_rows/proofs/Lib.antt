pub mod counts
pub mod grammars
pub mod scans
pub mod transactions
pub mod walks
