-- Laws about the definitions.
pub mod asked
pub mod drawn_scripts
pub mod runs
pub mod streams
