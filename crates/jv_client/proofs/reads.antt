-- Readings: their views, looks and blocks.
pub mod AskCallLaws
pub mod BlockReadLaws
pub mod LookLaws
pub mod LookedUpLaws
pub mod ReadCallLaws
pub mod ReadFailedLaws
pub mod ReaderLaws
pub mod ReadingGoesOnLaws
pub mod ReadingLaws
pub mod RefusedLookLaws
pub mod ShowLaws
pub mod YardReadLaws
