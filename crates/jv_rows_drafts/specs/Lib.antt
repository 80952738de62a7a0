-- What is said of small changes.
pub mod CivilDates
pub mod Drafting
pub mod Lowered
pub mod Ready
pub mod Present
