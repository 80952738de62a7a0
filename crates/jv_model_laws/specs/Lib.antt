-- What the laws say.
pub mod Laws
pub mod OnLines
