-- What the clauses of the top call rest on.
pub mod Staging
pub mod YardValue
pub mod Starting
pub mod Contents
