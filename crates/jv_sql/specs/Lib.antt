-- The definitions that contracts cite.
pub mod Answered
pub mod Known
pub mod StoreCode
