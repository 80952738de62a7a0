-- Clients: what an operation needs and does, and what a client keeps.
pub mod Profile
pub mod OpForms
pub mod Pending
pub mod Origins
pub mod ModelClient
pub mod Submission
