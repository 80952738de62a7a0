-- How often slices are named, and records that come.
pub mod AdjustLaws
pub mod AppendingLaws
pub mod CountsLaws
