-- Lemmas.
pub mod PairLaws
pub mod CachedLaws
