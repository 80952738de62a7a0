-- Lemmas.
pub mod CopyLaws
pub mod FewLaws
pub mod OverlapLaws
pub mod AlongLaws
pub mod PartLaws
