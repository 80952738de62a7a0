-- Closed examples of the definitions: scripts with what they do and print, and journals that are legal or not.
pub mod FreshRowsExamples
pub mod journals
pub mod refused
pub mod trees
