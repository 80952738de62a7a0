-- Laws about the definitions.
pub mod StagingLaws
pub mod PageLaws
pub mod CallLaws
pub mod ContentsLaws
pub mod LaterLaws
