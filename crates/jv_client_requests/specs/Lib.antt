-- What a request leads to.
pub mod Request
