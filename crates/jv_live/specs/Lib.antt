-- What is said of transactions on sessions.
pub mod Steps
