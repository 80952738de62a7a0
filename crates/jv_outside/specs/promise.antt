-- What the clauses of the top call rest on.
pub mod Causes
pub mod Rows
pub mod Stream
pub mod Ticks
pub mod Holding
pub mod Store
pub mod Objects
pub mod Carriage
pub mod Blocks
pub mod InMemory
