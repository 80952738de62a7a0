-- What the clauses of the top call rest on.
pub mod Growing
pub mod Direct
pub mod Lines
