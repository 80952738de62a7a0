-- What only this crate's contracts cite.
pub mod Printing
pub mod Reading
pub mod RoundTrips
