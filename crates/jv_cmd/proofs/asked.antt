-- What words ask for.
pub mod AppLaws
pub mod AskedLaws
pub mod ProgramLaws
pub mod TextLaws
pub mod ValuesLaws
pub mod WordsExamples
