-- What operations read, change and answer.
pub mod ChangeLaws
pub mod OpeningLaws
pub mod ReadLaws
pub mod ReleaseLaws
pub mod ReplyLaws
