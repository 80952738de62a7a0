-- What clients share, and what one of them relies on while others go on.
pub mod promise
pub mod Shared
pub mod Lengths
pub mod Seen
pub mod Flying
pub mod Direct
pub mod Keeping
