-- What is read and said, piece by piece.
pub mod BufferLaws
pub mod CuttingLaws
pub mod ReadingLaws
pub mod SayingLaws
