-- The definitions that contracts cite.
pub mod Fetching
pub mod Shows
pub mod Ahead
pub mod Going
pub mod Calls
pub mod Inside
pub mod Laws
