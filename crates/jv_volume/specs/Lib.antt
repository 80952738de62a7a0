-- What a volume's rows stand for, and when a volume is whole.
pub mod promise
pub mod Views
pub mod Stored
pub mod Whole
pub mod Holding
