-- The row of a file, numbers of slices, and what stays as before.
pub mod BesideLaws
pub mod ChangedFileLaws
pub mod CountersLaws
pub mod LookingLaws
pub mod NumberLaws
pub mod RefusedLaws
pub mod ResizingLaws
pub mod RestLaws
pub mod SameTreeLaws
pub mod SizedLaws
