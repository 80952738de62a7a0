-- The lines of a script, and the texts of answers.
pub mod Spelling
pub mod Printed
pub mod ReplyText
pub mod Grammar
pub mod Spelled
