-- Rows by their grammar, and names of paths.
pub mod AnyRowLaws
pub mod BoundLaws
pub mod ExactListLaws
pub mod ExactRowLaws
pub mod FieldLaws
pub mod NamesLaws
pub mod ReaderLaws
pub mod RecordLaws
pub mod SoundLaws
pub mod SpelledLaws
