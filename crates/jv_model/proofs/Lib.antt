-- Laws about the definitions, and closed rows of them.
pub mod PrintedExamples
pub mod GrammarExamples
pub mod ReplyTextExamples
pub mod TestLaws
pub mod ListLaws
pub mod FiniteMapLaws
pub mod ClientsLaws
pub mod PendingLaws
pub mod TreeComputeLaws
pub mod BlockNamesExamples
pub mod SlicesExamples
pub mod RowGrammarExamples
