-- Rows that are whole: fresh ones, and those that a creation or a removal leaves.
pub mod FreshWholeLaws
pub mod GoneRowsLaws
pub mod MadeRowsLaws
pub mod MadeWholeLaws
pub mod WholeLaws
