-- Laws about the definitions.
pub mod SeenLaws
pub mod MemberLaws
pub mod StateLaws
pub mod BeginLaws
pub mod GrowingLaws
pub mod UsesLaws
pub mod InLineLaws
pub mod RunLaws
pub mod NoteLaws
pub mod WholeLineLaws
