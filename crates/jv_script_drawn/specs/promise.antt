-- What the clauses of the top call rest on.
pub mod Script
pub mod Summary
