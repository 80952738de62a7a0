-- Clients: what an operation needs and does, and what a client keeps.
pub mod OpForms
pub mod Pending
pub mod ModelClient
