-- The definitions that contracts cite.
pub mod NameParts
pub mod Stretches
pub mod Listing
pub mod Laws
pub mod Shown
