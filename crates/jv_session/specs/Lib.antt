-- The definitions that contracts cite.
pub mod promise
pub mod Stands
pub mod Lines
pub mod InLine
