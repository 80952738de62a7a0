-- The definitions that contracts cite.
pub mod promise
pub mod Texts
pub mod Cutting
pub mod Program
pub mod Bounds
pub mod Words
pub mod Stages
pub mod Faults
pub mod Generating
pub mod DrawnScript
pub mod Opening
pub mod Attaching
pub mod Formatting
pub mod Commands
pub mod Steps
