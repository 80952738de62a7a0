-- The rows of the metadata: keys and bytes.
pub mod RowKeys
pub mod RowBytes
pub mod RowFields
pub mod RowGrammar
pub mod RowPlaces
