-- What the clauses of the top call rest on.
pub mod Shared
pub mod WholeVolume
