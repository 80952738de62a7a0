-- Scans, and the next row behind a key.
pub mod ListsLaws
pub mod NextRowLaws
pub mod NumberedRowsLaws
pub mod ScanLaws
pub mod ScannedLaws
