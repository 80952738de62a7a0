-- The journal: what it has reached, what may stand in it, what it prints, and when it is legal.
pub mod JournalValue
pub mod Reading
pub mod State
pub mod Steps
pub mod Past
pub mod Legal
