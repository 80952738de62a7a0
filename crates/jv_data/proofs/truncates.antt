-- Truncates.
pub mod TruncateEndsLaws
pub mod TruncateLaws
pub mod TruncatedLaws
