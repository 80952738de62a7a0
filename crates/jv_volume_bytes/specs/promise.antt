-- What the clauses of the top call rest on.
pub mod Bytes
pub mod Counts
pub mod Blocks
