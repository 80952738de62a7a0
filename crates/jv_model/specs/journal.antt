-- The journal: what it has reached, what may stand in it, what it prints, and when it is legal.
pub mod Looks
pub mod Stepping
