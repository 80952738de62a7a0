-- What the clauses of the top call rest on.
pub mod Texts
pub mod Values
pub mod Program
pub mod Bounds
pub mod Words
pub mod Ends
pub mod Worlds
pub mod Stages
pub mod Faults
pub mod Saying
pub mod Run
pub mod Generating
pub mod Opening
pub mod Attaching
pub mod Formatting
pub mod Commands
