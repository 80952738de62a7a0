-- The definitions that contracts cite.
pub mod promise
pub mod Script
pub mod Laws
