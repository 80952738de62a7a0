-- The definitions that contracts cite.
pub mod promise
pub mod Staging
pub mod YardValue
pub mod Refusals
pub mod Starting
pub mod Pages
pub mod BlockCalls
pub mod Later
pub mod Doors
pub mod Laws
