-- What the clauses of the top call rest on.
pub mod TypedRows
pub mod Views
pub mod TreeOf
pub mod Shape
pub mod Stored
pub mod Slices
pub mod Whole
pub mod Fresh
