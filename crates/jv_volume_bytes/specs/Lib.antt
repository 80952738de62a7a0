-- The bytes of files: where they lie, what blocks have there, and what transactions on lists leave
-- alone.
pub mod promise
pub mod Places
pub mod Fills
pub mod Counts
pub mod Blocks
pub mod Flights
