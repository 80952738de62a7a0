-- What the clauses of the top call rest on.
pub mod Shared
pub mod Built
pub mod Direct
pub mod Failures
pub mod Makes
