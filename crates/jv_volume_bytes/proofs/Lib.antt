-- What is proved of the bytes of files.
pub mod PlaceLaws
pub mod ByteLaws
pub mod FillLaws
pub mod FlightLaws
pub mod BlockLaws
pub mod KeepLaws
pub mod CutLaws
pub mod WholeLaws
pub mod CopyLaws
pub mod BehindLaws
pub mod CountLaws
pub mod PlaceExamples
