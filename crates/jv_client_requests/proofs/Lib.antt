-- What is proved of requests.
pub mod ChangeLaws
pub mod CommitLaws
pub mod FlightLaws
pub mod GetLaws
pub mod GrowsLaws
pub mod LandedLaws
pub mod LookLaws
pub mod MetadataLaws
pub mod NumberLaws
pub mod PutLaws
pub mod RequestLaws
pub mod StillLaws
