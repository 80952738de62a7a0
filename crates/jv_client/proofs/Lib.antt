-- Laws about clients.
pub mod begun
pub mod flushes
pub mod held
pub mod reads
pub mod steps
pub mod writes
