pub mod StreamLaws
pub mod TicksLaws
pub mod LazyTreeLaws
pub mod StoredLaws
pub mod ScanLaws
pub mod OverlaidLaws
pub mod ListingLaws
