-- What is proved of whole volumes.
pub mod examples
pub mod holding
pub mod maps
pub mod names
pub mod operations
pub mod shapes
pub mod stored
pub mod sums
pub mod whole
