-- Lemmas.
pub mod CacheLaws
pub mod GoingLaws
pub mod FetchLaws
pub mod SameLaws
