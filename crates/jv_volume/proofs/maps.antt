-- Rows and tables as finite maps.
pub mod MapLaws
pub mod SeenLaws
pub mod SelectLaws
pub mod SelectOrderLaws
pub mod TableLaws
pub mod TypedLaws
pub mod WrittenRowsLaws
