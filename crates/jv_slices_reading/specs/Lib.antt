-- The definitions that contracts cite.
pub mod Overlaps
pub mod Copies
pub mod Parts
pub mod Laws
pub mod Inside
