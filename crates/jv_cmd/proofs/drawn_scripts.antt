-- Scripts that are drawn from a seed.
pub mod DrawnDataLaws
pub mod DrawnEndLaws
pub mod DrawnLaws
pub mod DrawnLineLaws
pub mod DrawnNumberLaws
pub mod DrawnPathLaws
pub mod DrawnScriptLaws
pub mod DrawnWordLaws
